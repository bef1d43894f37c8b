-- The tree of elements that a script makes.
use Rattle.std.specs.Prelude.{ℕ, zero, suc, ◌+◌, List, [], ◌∷◌, ◌++◌, length, Some, None, Option, slice_set}
use Rattle.std.specs.List.{slice_get}
use Rattle.page.specs.declared.types.ElementType.{ElementType}

-- A kid: an element by its number, or a mark by its page, from 1, and its identifier on that page, from 0.
pub data Kid : Type 0 where
  element : ℕ → Kid
  mark : ℕ → ℕ → Kid

-- An element: the number of its parent (0 is the root of the tree), its type, and its kids in order.
pub record Element : Type 0 where
  pub parent : ℕ
  pub role : ElementType
  pub kids : List Kid

-- A tree: the kids of the root, and the elements, of which the first has number 1.
pub record Tree : Type 0 where
  pub roots : List Kid
  pub elements : List Element

-- The tree of nothing.
abbrev pub no_tree : Tree
no_tree = record { roots = []; elements = [] }

-- The kids of an element that there may be or not.
abbrev pub kids_in : Option Element → List Kid
kids_in None = []
kids_in (Some e) = e.kids

-- The kids of the element of this number; of 0, those of the root.
abbrev pub kids_of : Tree → ℕ → List Kid
kids_of t zero = t.roots
kids_of t (suc e) = kids_in (slice_get t.elements e)

-- An element with one kid more, after the others.
abbrev pub with_kid : Element → Kid → Element
with_kid e k = record { parent = e.parent; role = e.role; kids = e.kids ++ k ∷ [] }

-- The elements with one kid more for the one at this place, if there is one.
abbrev pub adopted_at : List Element → ℕ → Option Element → Kid → List Element
adopted_at es i None k = es
adopted_at es i (Some e) k = slice_set es i (with_kid e k)

-- The tree with one kid more for the element of this number; for 0, of the root.
abbrev pub adopted : Tree → ℕ → Kid → Tree
adopted t zero k = record { roots = t.roots ++ k ∷ []; elements = t.elements }
adopted t (suc e) k = record { roots = t.roots; elements = adopted_at t.elements e (slice_get t.elements e) k }

-- The tree with one element more: it gets the next number, and becomes its parent's last kid.
abbrev pub with_element : Tree → ℕ → ElementType → Tree
with_element t parent role =
    let held : Tree = adopted t parent (element (length t.elements + 1)) in
    record { roots = held.roots; elements = held.elements ++ record { parent = parent; role = role; kids = [] } ∷ [] }
