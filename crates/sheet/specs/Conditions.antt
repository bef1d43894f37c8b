-- The conditions on which a word is refused, by their numbers, and the law that the first one gives the number.
use Rattle.std.specs.Prelude.{◌≡◌, ℕ, suc, ◌+◌, ◌<◌, false, ◌⊎◌, ◌↔◌, length, ℤ, pos, negsuc, Some, None, Ok, Option}
use Rattle.std.specs.Option.{option_map}
use Rattle.page.specs.declared.types.Word.{Word}
use Rattle.page.specs.declared.types.Word.TheVariants as word
use Rattle.page.specs.Numbers.{highest_kind}
use Rattle.page.specs.Fields.{kind_of, payload_of}
use Rattle.page.specs.Decoded.{decoded}
use Rattle.page.specs.Laws.{InRange}
use Rattle.machine.specs.Stack.{saves_in}
use Rattle.machine.specs.State.{most_pages, most_marks, most_drawn, most_saves_written}
use Rattle.sheet.specs.Due.{Drawing, obeyed}
use Rattle.sheet.specs.Layout.{so_far}
use Rattle.sheet.specs.Refusals.{word_number}
use Rattle.sheet.specs.Run.{most_elements, judged, is_taken, reserve}
use Rattle.sheet.specs.Sheet.{Sheet, sheet_after}

-- The kind of the 32 bits is above the highest.
abbrev pub NoSuchKind : ℕ → Type 0
NoSuchKind w = highest_kind < kind_of w

-- The payload is not in the range of its kind.
abbrev pub PayloadOutside : ℕ → Type 0
PayloadOutside w = InRange (kind_of w) (payload_of w) → ⊥

-- The bits say a word that is not taken where the sheet is.
abbrev pub NotTaken : Sheet → ℕ → Type 0
NotTaken s w = (x : Word) × (decoded w ≡ Ok x) × (is_taken s x ≡ false)

-- The element that a word names, the parent of an element word or the owner of a mark; 0 if it names none.
abbrev pub element_named : Word → ℕ
element_named (word.Page width height) = 0
element_named word.Close = 0
element_named (word.Element parent role) = parent
element_named (word.Mark e) = e
element_named word.Save = 0
element_named (word.Origin a b) = 0
element_named (word.Turn quarters) = 0
element_named (word.Pen a b) = 0
element_named (word.Line a b) = 0
element_named (word.Paint operator) = 0
element_named (word.Text size) = 0
element_named (word.Place a b) = 0
element_named (word.Show codes) = 0

-- The bits say a word that names an element above the last one of the sheet.
abbrev pub NoSuchElement : Sheet → ℕ → Type 0
NoSuchElement s w = (x : Word) × (decoded w ≡ Ok x) × (length s.drawing.tree.elements < element_named x)

-- A count is raised, and is then above the most.
abbrev pub RaisedAbove : ℕ → ℕ → ℕ → Type 0
RaisedAbove most before after = (before < after) × (most < after)

-- From one drawing to the next a limit is passed: of pages, of elements, of marks that belong to an element, of glyphs
-- and points, or of saves that are open.
pub data OverLimit (before after : Drawing) : Type 0 where
  pages : RaisedAbove most_pages before.machine.numbers.counts.pages after.machine.numbers.counts.pages → OverLimit before after
  elements : RaisedAbove most_elements (length before.tree.elements) (length after.tree.elements) → OverLimit before after
  marks : RaisedAbove most_marks before.machine.numbers.counts.marks after.machine.numbers.counts.marks → OverLimit before after
  drawn : RaisedAbove most_drawn before.machine.numbers.counts.drawn after.machine.numbers.counts.drawn → OverLimit before after
  saves : RaisedAbove most_saves_written (saves_in before.machine.stack) (saves_in after.machine.stack) → OverLimit before after

-- The bits say a word that would pass a limit if it were obeyed.
abbrev pub LimitPassed : Sheet → ℕ → Type 0
LimitPassed s w = (x : Word) × (decoded w ≡ Ok x) × OverLimit s.drawing (obeyed s.drawing x)

-- How far a number is from 0.
abbrev pub magnitude : ℤ → ℕ
magnitude (pos n) = n
magnitude (negsuc n) = suc n

-- The place (x, y) is more than 14,400 from 0 along an axis.
abbrev pub Far : ℤ → ℤ → Type 0
Far x y = (14400 < magnitude x) ⊎ (14400 < magnitude y)

-- A word leaves a drawing in which what it moved is too far: the offset after an origin word, the start of the line of
-- text after a place word.
pub data MovedTooFar (x : Word) (after : Drawing) : Type 0 where
  offset : (a b : ℤ) → x ≡ word.Origin a b → Far after.machine.numbers.axes.x after.machine.numbers.axes.y → MovedTooFar x after
  line : (a b : ℤ) → x ≡ word.Place a b → Far after.machine.numbers.line.x after.machine.numbers.line.y → MovedTooFar x after

-- The bits say a word that would move the offset or the start of the line of text out of range if it were obeyed.
abbrev pub PlaceOutside : Sheet → ℕ → Type 0
PlaceOutside s w = (x : Word) × (decoded w ≡ Ok x) × MovedTooFar x (obeyed s.drawing x)

-- The bits say a word after which the bytes and the reserve of the sheet are more than the room.
abbrev pub RoomBelowReserve : ℕ → Sheet → ℕ → Type 0
RoomBelowReserve room s w = (x : Word) × (decoded w ≡ Ok x) × (room < length (so_far (sheet_after s x)) + reserve (sheet_after s x))

-- The condition of the number n holds of the bits w on the sheet s, begun on a sink of this room.
pub data Condition (n room : ℕ) (s : Sheet) (w : ℕ) : Type 0 where
  no_such_kind : n ≡ 10 → NoSuchKind w → Condition n room s w
  payload_outside : n ≡ 11 → PayloadOutside w → Condition n room s w
  not_taken : n ≡ 12 → NotTaken s w → Condition n room s w
  no_such_element : n ≡ 13 → NoSuchElement s w → Condition n room s w
  limit_passed : n ≡ 14 → LimitPassed s w → Condition n room s w
  place_outside : n ≡ 15 → PlaceOutside s w → Condition n room s w
  room_below_reserve : n ≡ 16 → RoomBelowReserve room s w → Condition n room s w

-- The number by which the bits w are refused, if they are.
abbrev pub refused_by : ℕ → Sheet → ℕ → Option ℕ
refused_by room s w = option_map word_number (judged room s (decoded w))

-- No condition of a lower number holds.
abbrev pub NoneLower : ℕ → ℕ → Sheet → ℕ → Type 0
NoneLower n room s w = (m : ℕ) → m < n → Condition m room s w → ⊥

-- A word is refused by the number n exactly if the condition of n holds and none of a lower number does.
abbrev pub RefusedByTheFirstCondition : Type 0
RefusedByTheFirstCondition = (room : ℕ) (s : Sheet) (w n : ℕ) → (refused_by room s w ≡ Some n) ↔ (Condition n room s w × NoneLower n room s w)

-- A word is obeyed exactly if no condition holds.
abbrev pub ObeyedWithoutCondition : Type 0
ObeyedWithoutCondition = (room : ℕ) (s : Sheet) (w : ℕ) → (refused_by room s w ≡ None) ↔ ((n : ℕ) → Condition n room s w → ⊥)
