-- Strict files: what a file reads as, or its first fault.
use Rattle.std.specs.Prelude.{ℕ, ◌+◌, Bool, true, false, cond, ◌&&◌, List, [], ◌∷◌, length, None, Ok, Result, ◌==◌, nat_lt, slice_index_or}
use Rattle.page.specs.declared.types.ElementType.{ElementType}
use Rattle.page.specs.Numbers.{type_number}
use Rattle.sheet.specs.declared.faults.Fault.{Fault}
use Rattle.sheet.specs.declared.items.Item.{Item}
use Rattle.sheet.specs.Due.{no_drawing}
use Rattle.sheet.specs.Faults.{and_then}
use Rattle.sheet.specs.Objects.{tree_of, object_in, catalog_in, page_tree_in, root_in, parent_tree_in}
use Rattle.sheet.specs.Table.{Index, index_of}
use Rattle.sheet.specs.Tree.{Kid, element}
use Rattle.sheet.specs.Walk.{Visit, entered, met, walk, place_of, read_along}
use Rattle.sheet.specs.Structure.{provided, pages_in, font_of, keys_from, seconds, owners_of, Reached, waiting_kids, elements_of}
use Rattle.sheet.specs.Running.{pages_run}

-- The element types are the same.
abbrev pub same_type : ElementType → ElementType → Bool
same_type s t = type_number s == type_number t

-- The element was reached, with this type.
abbrev pub has_type : ElementType → ℕ → List Reached → Bool
has_type role n [] = false
has_type role n (r ∷ rs) = elim (r.object == n) [ true ↦ same_type r.role role | false ↦ has_type role n rs ]

-- Who holds mark i of page k, in reading order.
abbrev pub holders_of : ℕ → ℕ → List Visit → List ℕ
holders_of k i [] = []
holders_of k i (entered e holder ∷ vs) = holders_of k i vs
holders_of k i (met page j holder ∷ vs) = elim (page == k && j == i) [ true ↦ holder ∷ holders_of k i vs | false ↦ holders_of k i vs ]

-- How many marks of page k are held.
abbrev pub held_on : ℕ → List Visit → ℕ
held_on k [] = 0
held_on k (entered e holder ∷ vs) = held_on k vs
held_on k (met page j holder ∷ vs) = cond (page == k) 1 0 + held_on k vs

-- One holder, and it is this one.
abbrev pub only_holder : ℕ → List ℕ → Bool
only_holder e [] = false
only_holder e (h ∷ []) = h == e
only_holder e (h ∷ g ∷ hs) = false

-- A mark of page k is below the count; its owner is the one element that holds it, and has the mark's type.
abbrev pub owned : List Reached → List Visit → List ℕ → ℕ → ℕ × ElementType → Bool
owned rs vs owners k m =
    let e : ℕ = slice_index_or owners m.0 0 in
    nat_lt m.0 (length owners) && (only_holder e (holders_of k m.0 vs) && has_type m.1 e rs)

-- That holds of all marks of a page.
abbrev pub all_owned : List Reached → List Visit → List ℕ → ℕ → List (ℕ × ElementType) → Bool
all_owned rs vs owners k [] = true
all_owned rs vs owners k (m ∷ ms) = owned rs vs owners k m && all_owned rs vs owners k ms

-- The owners of page k match its marks, and no K holds other marks of the page.
abbrev pub matched : List Reached → List Visit → ℕ → List ℕ → List (ℕ × ElementType) → Bool
matched rs vs k owners ms = length owners == length ms && (held_on k vs == length ms && all_owned rs vs owners k ms)

-- The owners of each page, from page k on, match; their arrays are these objects.
abbrev pub all_matched : Index → List Reached → List Visit → ℕ → List ℕ → List (List ℕ) → List (List (ℕ × ElementType)) → Result Unit Fault
all_matched x rs vs k [] os ms = Ok tt
all_matched x rs vs k (n ∷ ns) [] ms = Ok tt
all_matched x rs vs k (n ∷ ns) (o ∷ os) [] = Ok tt
all_matched x rs vs k (n ∷ ns) (o ∷ os) (m ∷ ms) = and_then (provided (matched rs vs k o m) (tree_of x n)) λ _. all_matched x rs vs (k + 1) ns os ms

-- A reading: how many pages; each element's type and its parent's place, in reading order; the items in reading order.
pub record Reading : Type 0 where
  pub pages : ℕ
  pub elements : List (ElementType × ℕ)
  pub items : List Item

-- The kids of an element that was reached.
abbrev pub kids_reached : List Reached → ℕ → List Kid
kids_reached [] n = []
kids_reached (r ∷ rs) n = elim (r.object == n) [ true ↦ r.kids | false ↦ kids_reached rs n ]

-- Elements as kids.
abbrev pub as_kids : List ℕ → List Kid
as_kids [] = []
as_kids (n ∷ ns) = element n ∷ as_kids ns

-- The kids of an object of the tree, the root or an element.
abbrev pub kids_under : ℕ → List ℕ → List Reached → ℕ → List Kid
kids_under root roots rs n = elim (n == root) [ true ↦ as_kids roots | false ↦ kids_reached rs n ]

-- Types and parents' places.
abbrev pub placed : List Visit → List Reached → List (ElementType × ℕ)
placed vs [] = []
placed vs (r ∷ rs) = (r.role, place_of r.holder vs) ∷ placed vs rs

-- The reading of a file, or its first fault.
unfoldable pub reading_of : List ℕ → Result Reading Fault
reading_of file =
    and_then (index_of file) λ x.
    and_then (object_in file x (catalog_in x) x.root) λ catalog.
    and_then (object_in file x (page_tree_in x) catalog.0) λ pages.
    and_then (pages_in file x catalog.0 None 1 pages) λ ps.
    and_then (font_of file x ps) λ _.
    and_then (object_in file x (root_in x (length ps)) catalog.1) λ root.
    and_then (object_in file x (parent_tree_in x) root.1) λ parents.
    and_then (provided (length parents == length ps && keys_from 0 parents) (tree_of x root.1)) λ _.
    and_then (owners_of file x (seconds parents)) λ owners.
    and_then (elements_of (length x.offsets + 1) file x pages [] 0 (waiting_kids catalog.1 (as_kids root.0) [])) λ rs.
    and_then (pages_run file x no_drawing ps) λ ran.
    let vs : List Visit = walk (length rs + 1) (kids_under catalog.1 root.0 rs) catalog.1 in
    and_then (all_matched x rs vs 1 (seconds parents) owners ran.1) λ _.
    Ok (record { pages = length ps; elements = placed vs rs; items = read_along vs ran.0.tagged })
