-- The numbers, names and letters of kinds, element types, paint operators, codes and refusals.
use Rattle.std.specs.Prelude.{ℕ, ◌≡◌, ◌↔◌, Bool, if◌then◌else◌, List, Some, None, Ok, codes, Option, Result, ◌==◌, nat_le}
use Rattle.std.specs.Option.{ok_or}
use Rattle.page.specs.declared.types.Kind.{Kind}
use Rattle.page.specs.declared.types.Kind.TheVariants.{Page, Close, Element, Mark, Save, Origin, Turn, Pen, Line, Paint, Text, Place, Show}
use Rattle.page.specs.declared.types.ElementType.{ElementType}
use Rattle.page.specs.declared.types.ElementType.TheVariants.{Document, Part, Sect, P, H1, H2, L, LI, Figure, Caption}
use Rattle.page.specs.declared.types.PaintOperator.{PaintOperator}
use Rattle.page.specs.declared.types.PaintOperator.TheVariants.{Stroke, CloseAndStroke, Fill, End}
use Rattle.page.specs.declared.types.Codes.{Codes}
use Rattle.page.specs.declared.types.Codes.TheVariants.{One, Two, Three}
use Rattle.page.specs.declared.types.Word.{Word}
use Rattle.page.specs.declared.types.Word.TheVariants as word
use Rattle.page.specs.declared.types.Refusal.{Refusal}
use Rattle.page.specs.declared.types.Refusal.TheVariants as refusal

-- A value, provided that a test holds; else nothing.
abbrev pub provided : {X : Type 0} → Bool → X → Option X
provided holds x = if holds then Some x else None

-- The highest number of a kind.
abbrev pub highest_kind : ℕ
highest_kind = 12

-- The number of a kind.
abbrev pub kind_number : Kind → ℕ
kind_number Page = 0
kind_number Close = 1
kind_number Element = 2
kind_number Mark = 3
kind_number Save = 4
kind_number Origin = 5
kind_number Turn = 6
kind_number Pen = 7
kind_number Line = 8
kind_number Paint = 9
kind_number Text = 10
kind_number Place = 11
kind_number Show = 12

-- What a kind is called in print.
abbrev pub kind_name : Kind → List ℕ
kind_name Page = codes "page"
kind_name Close = codes "close"
kind_name Element = codes "element"
kind_name Mark = codes "mark"
kind_name Save = codes "save"
kind_name Origin = codes "origin"
kind_name Turn = codes "turn"
kind_name Pen = codes "pen"
kind_name Line = codes "line"
kind_name Paint = codes "paint"
kind_name Text = codes "text"
kind_name Place = codes "place"
kind_name Show = codes "show"

-- The kind of a word.
abbrev pub word_kind : Word → Kind
word_kind (word.Page width height) = Page
word_kind word.Close = Close
word_kind (word.Element parent role) = Element
word_kind (word.Mark element) = Mark
word_kind word.Save = Save
word_kind (word.Origin a b) = Origin
word_kind (word.Turn quarters) = Turn
word_kind (word.Pen a b) = Pen
word_kind (word.Line a b) = Line
word_kind (word.Paint operator) = Paint
word_kind (word.Text size) = Text
word_kind (word.Place a b) = Place
word_kind (word.Show shown) = Show

-- The kind of a number up to the highest.
abbrev pub kind_numbered : ℕ → Kind
kind_numbered n =
    if n == 0 then Page
    else if n == 1 then Close
    else if n == 2 then Element
    else if n == 3 then Mark
    else if n == 4 then Save
    else if n == 5 then Origin
    else if n == 6 then Turn
    else if n == 7 then Pen
    else if n == 8 then Line
    else if n == 9 then Paint
    else if n == 10 then Text
    else if n == 11 then Place
    else Show

-- The kind of a number, if there is one.
abbrev pub kind_at : ℕ → Option Kind
kind_at n = provided (nat_le n highest_kind) (kind_numbered n)

-- The highest number of an element type.
abbrev pub highest_type : ℕ
highest_type = 9

-- The number of an element type.
abbrev pub type_number : ElementType → ℕ
type_number Document = 0
type_number Part = 1
type_number Sect = 2
type_number P = 3
type_number H1 = 4
type_number H2 = 5
type_number L = 6
type_number LI = 7
type_number Figure = 8
type_number Caption = 9

-- The element type of a number up to the highest.
abbrev pub type_numbered : ℕ → ElementType
type_numbered n =
    if n == 0 then Document
    else if n == 1 then Part
    else if n == 2 then Sect
    else if n == 3 then P
    else if n == 4 then H1
    else if n == 5 then H2
    else if n == 6 then L
    else if n == 7 then LI
    else if n == 8 then Figure
    else Caption

-- The element type of a number, if there is one.
abbrev pub type_at : ℕ → Option ElementType
type_at n = provided (nat_le n highest_type) (type_numbered n)

-- The name of an element type in a file.
abbrev pub name_of : ElementType → List ℕ
name_of Document = codes "Document"
name_of Part = codes "Part"
name_of Sect = codes "Sect"
name_of P = codes "P"
name_of H1 = codes "H1"
name_of H2 = codes "H2"
name_of L = codes "L"
name_of LI = codes "LI"
name_of Figure = codes "Figure"
name_of Caption = codes "Caption"

-- The number of a paint operator.
abbrev pub operator_number : PaintOperator → ℕ
operator_number Stroke = 0
operator_number CloseAndStroke = 1
operator_number Fill = 2
operator_number End = 3

-- The paint operator of a number, if there is one.
abbrev pub operator_at : ℕ → Option PaintOperator
operator_at n =
    if n == 0 then Some Stroke
    else if n == 1 then Some CloseAndStroke
    else if n == 2 then Some Fill
    else if n == 3 then Some End
    else None

-- The letter of a paint operator in a page's contents: S, s, f, n.
abbrev pub letter_of : PaintOperator → ℕ
letter_of Stroke = 83
letter_of CloseAndStroke = 115
letter_of Fill = 102
letter_of End = 110

-- How many codes a word shows.
abbrev pub count_of : Codes → ℕ
count_of (One x) = 1
count_of (Two x y) = 2
count_of (Three x y z) = 3

-- The number of a refusal.
abbrev pub number_of : Refusal → ℕ
number_of refusal.Kind = 10
number_of refusal.Payload = 11

-- Why a word is refused, in print.
abbrev pub reason_of : Refusal → List ℕ
reason_of refusal.Kind = codes "no such kind"
reason_of refusal.Payload = codes "payload outside its range"

-- A case was found by the number n exactly if n is its number.
abbrev pub FoundBy : {X : Type 0} → (X → ℕ) → ℕ → Result X Refusal → Type 0
FoundBy {X} number n answer = (x : X) → (answer ≡ Ok x) ↔ (number x ≡ n)

-- The case at the number n, found by its own number; or the refusal `why`, where there is none.
pub record IsCaseAt {X : Type 0} (case_at : ℕ → Option X) (number : X → ℕ) (why : Refusal) (n : ℕ) (answer : Result X Refusal) : Type 0 where
  pub value : answer ≡ ok_or (case_at n) why
  pub found : FoundBy number n answer
