-- The pages, the font, the parent tree, the owners and the elements of a file, each by its rules.
use Rattle.std.specs.Prelude.{ℕ, zero, suc, ◌+◌, ◌-◌, Bool, true, false, not, ◌&&◌, ◌||◌, List, [], ◌∷◌, ◌++◌, length, ℤ, pos, negsuc, Some, None, Ok, Err, Option, Result, ◌==◌, nat_le, nat_lt}
use Rattle.page.specs.declared.types.ElementType.{ElementType}
use Rattle.machine.specs.State.{most_pages, most_marks}
use Rattle.sheet.specs.declared.faults.Fault.{Fault}
use Rattle.sheet.specs.Faults.{or_fault, and_then}
use Rattle.sheet.specs.Lines.{bind}
use Rattle.sheet.specs.Objects.{syntax_of, tree_of, limit_of, object_in, PageObject, page_in, font_in, owners_in, KidObject, below, content, element_in}
use Rattle.sheet.specs.Run.{most_elements}
use Rattle.sheet.specs.Table.{Index}
use Rattle.sheet.specs.Tree.{Kid, element, mark}

-- A test that fails is this fault.
abbrev pub provided : Bool → Fault → Result Unit Fault
provided true f = Ok tt
provided false f = Err f

-- An integer is this number.
abbrev pub is_number : ℤ → ℕ → Bool
is_number (pos m) n = m == n
is_number (negsuc m) n = false

-- One page more in front.
abbrev pub page_then : PageObject → List PageObject → Result (List PageObject) Fault
page_then p ps = Ok (p ∷ ps)

-- The font of a page is that of the first, if there is a first.
abbrev pub same_font : Option ℕ → PageObject → Bool
same_font None p = true
same_font (Some f) p = p.font == f

-- The font that later pages have to name.
abbrev pub font_so_far : Option ℕ → PageObject → Option ℕ
font_so_far None p = Some p.font
font_so_far (Some f) p = Some f

-- The pages of these objects, from page k on.
abbrev pub pages_in : List ℕ → Index → ℕ → Option ℕ → ℕ → List ℕ → Result (List PageObject) Fault
pages_in file x tree font k [] = Ok []
pages_in file x tree font k (n ∷ ns) =
    and_then (object_in file x (page_in x tree) n) λ p.
    and_then (provided (same_font font p) (syntax_of x n)) λ _.
    and_then (provided (is_number p.key (k - 1)) (tree_of x n)) λ _.
    and_then (provided (nat_le k most_pages) (limit_of x n)) λ _.
    and_then (pages_in file x tree (font_so_far font p) (k + 1) ns) (page_then p)

-- The font that the pages name, if there are pages.
abbrev pub font_of : List ℕ → Index → List PageObject → Result Unit Fault
font_of file x [] = Ok tt
font_of file x (p ∷ ps) = object_in file x font_in p.font

-- The keys of the parent tree are 0 and on, as many as there are pages.
abbrev pub keys_from : ℕ → List (ℤ × ℕ) → Bool
keys_from k [] = true
keys_from k (p ∷ ps) = is_number p.0 k && keys_from (k + 1) ps

-- What the keys refer to.
abbrev pub seconds : List (ℤ × ℕ) → List ℕ
seconds [] = []
seconds (p ∷ ps) = p.1 ∷ seconds ps

-- One owners array more in front.
abbrev pub owners_then : List ℕ → List (List ℕ) → Result (List (List ℕ)) Fault
owners_then o os = Ok (o ∷ os)

-- The owners arrays of these objects.
abbrev pub owners_of : List ℕ → Index → List ℕ → Result (List (List ℕ)) Fault
owners_of file x [] = Ok []
owners_of file x (n ∷ ns) = and_then (object_in file x (owners_in x) n) λ o. and_then (owners_of file x ns) (owners_then o)

-- An element that was reached: its object, what it says, and its kids with their pages counted from 1.
pub record Reached : Type 0 where
  pub object : ℕ
  pub role : ElementType
  pub holder : ℕ
  pub kids : List Kid

-- The place of a page's object among the pages, from 1.
abbrev pub page_from : ℕ → List ℕ → ℕ → Option ℕ
page_from k [] n = None
page_from k (p ∷ ps) n = elim (p == n) [ true ↦ Some k | false ↦ page_from (k + 1) ps n ]

-- A kid with its page, if that is a page of the file.
abbrev pub kid_by : List ℕ → KidObject → Option Kid
kid_by pages (below e) = Some (element e)
kid_by pages (content page i) = bind (page_from 1 pages page) λ k. Some (mark k i)

-- Kids with their pages, if all are pages of the file.
abbrev pub kids_by : List ℕ → List KidObject → Option (List Kid)
kids_by pages [] = Some []
kids_by pages (k ∷ ks) = bind (kid_by pages k) λ y. bind (kids_by pages ks) λ ys. Some (y ∷ ys)

-- How many marks there are among kids.
abbrev pub marks_among : List Kid → ℕ
marks_among [] = 0
marks_among (element e ∷ ks) = marks_among ks
marks_among (mark page i ∷ ks) = 1 + marks_among ks

-- The elements that are kids, each with its holder, in front of those that wait.
abbrev pub waiting_kids : ℕ → List Kid → List (ℕ × ℕ) → List (ℕ × ℕ)
waiting_kids holder [] rest = rest
waiting_kids holder (element e ∷ ks) rest = (e, holder) ∷ waiting_kids holder ks rest
waiting_kids holder (mark page i ∷ ks) rest = waiting_kids holder ks rest

-- The object was reached before.
abbrev pub was_reached : ℕ → List Reached → Bool
was_reached n [] = false
was_reached n (r ∷ rs) = r.object == n || was_reached n rs

-- One element, where these were reached before it with so many marks: it was not reached before; its syntax; its holder and the pages of its marks; the limits.
abbrev pub element_of : List ℕ → Index → List ℕ → List Reached → ℕ → ℕ × ℕ → Result (Reached × ℕ) Fault
element_of file x pages reached marks next =
    let n : ℕ = next.0 in
    and_then (provided (not (was_reached n reached)) (tree_of x n)) λ _.
    and_then (object_in file x (element_in x) n) λ e.
    and_then (provided (e.holder == next.1) (tree_of x n)) λ _.
    and_then (or_fault (kids_by pages e.kids) (tree_of x n)) λ kids.
    let all : ℕ = marks + marks_among kids in
    and_then (provided (nat_lt (length reached) most_elements && nat_le all most_marks) (limit_of x n)) λ _.
    Ok (record { object = n; role = e.role; holder = next.1; kids = kids }, all)

-- The elements in reading order, from those that wait on. Each step reaches another object, so there are no more steps
-- than objects.
unfoldable pub elements_of : ℕ → List ℕ → Index → List ℕ → List Reached → ℕ → List (ℕ × ℕ) → Result (List Reached) Fault
elements_of steps file x pages reached marks [] = Ok reached
elements_of zero file x pages reached marks (next ∷ rest) = Err (tree_of x next.0)
elements_of (suc k) file x pages reached marks (next ∷ rest) =
    and_then (element_of file x pages reached marks next) λ r.
    elements_of k file x pages (reached ++ r.0 ∷ []) r.1 (waiting_kids r.0.object r.0.kids rest)
