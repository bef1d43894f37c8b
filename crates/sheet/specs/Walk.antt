-- Reading order: down a tree from its root, kids in order. Elements go by any numbers, so that one walk serves scripts,
-- where they are counted from 1, and files, where they have object numbers.
use Rattle.std.specs.Prelude.{ℕ, zero, suc, ◌+◌, cond, ◌&&◌, List, [], ◌∷◌, ◌++◌, ◌==◌}
use Rattle.machine.specs.declared.types.Drawn.{Drawn}
use Rattle.sheet.specs.declared.items.Item.{Item}
use Rattle.sheet.specs.Tree.{Kid, element, mark}

-- What is met on the way: an element, with its holder; or a mark, by page and identifier, with the element that holds it.
pub data Visit : Type 0 where
  entered : ℕ → ℕ → Visit
  met : ℕ → ℕ → ℕ → Visit

-- What is met at the kids of an element, going on down at each kid that is one.
abbrev pub along_kids : (ℕ → List Visit) → ℕ → List Kid → List Visit
along_kids below holder [] = []
along_kids below holder (element e ∷ ks) = (entered e holder ∷ below e) ++ along_kids below holder ks
along_kids below holder (mark page i ∷ ks) = met page i holder ∷ along_kids below holder ks

-- What is met below an element, at most so many levels down.
abbrev pub walk : ℕ → (ℕ → List Kid) → ℕ → List Visit
walk zero kids e = []
walk (suc levels) kids e = along_kids (walk levels kids) e (kids e)

-- The place of an element among the elements that are entered, counted on from n; 0 if it is not entered.
abbrev pub place_from : ℕ → ℕ → List Visit → ℕ
place_from n e [] = 0
place_from n e (entered x holder ∷ vs) = cond (x == e) n (place_from (n + 1) e vs)
place_from n e (met page i holder ∷ vs) = place_from n e vs

-- The place of an element in a walk, from 1; of the root, 0.
abbrev pub place_of : ℕ → List Visit → ℕ
place_of e vs = place_from 1 e vs

-- A thing that was drawn, with the mark that it was drawn in.
pub record Tagged : Type 0 where
  pub page : ℕ
  pub identifier : ℕ
  pub drawn : Drawn

-- An item of the element at this place.
abbrev pub item_of : ℕ → Tagged → Item
item_of place t = record {
  letter = t.drawn.letter;
  page = t.page;
  x = t.drawn.x;
  y = t.drawn.y;
  turn = t.drawn.turn;
  size = t.drawn.size;
  code = t.drawn.code;
  element = place;
}

-- The items of one mark, as they were drawn, for the element at this place.
abbrev pub items_of : ℕ → ℕ → ℕ → List Tagged → List Item
items_of page i place [] = []
items_of page i place (t ∷ ts) = cond (t.page == page && t.identifier == i) (item_of place t ∷ []) [] ++ items_of page i place ts

-- The items of the marks that are met, where the whole walk gives elements their places.
abbrev pub items_along : List Visit → List Tagged → List Visit → List Item
items_along whole ts [] = []
items_along whole ts (entered e holder ∷ vs) = items_along whole ts vs
items_along whole ts (met page i holder ∷ vs) = items_of page i (place_of holder whole) ts ++ items_along whole ts vs

-- The reading of a walk and of all that was drawn.
abbrev pub read_along : List Visit → List Tagged → List Item
read_along vs ts = items_along vs ts vs
