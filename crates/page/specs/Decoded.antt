-- What 32 bits say: a word, or why they are refused.
use Rattle.std.specs.Prelude.{ℕ, if◌then◌else◌, ◌&&◌, Some, None, Err, Option, Result, ◌==◌}
use Rattle.std.specs.Option.{ok_or}
use Rattle.page.specs.declared.types.Kind.{Kind}
use Rattle.page.specs.declared.types.Kind.TheVariants as kind
use Rattle.page.specs.declared.types.ElementType.{ElementType}
use Rattle.page.specs.declared.types.PaintOperator.{PaintOperator}
use Rattle.page.specs.declared.types.Codes.{Codes}
use Rattle.page.specs.declared.types.Codes.TheVariants.{One, Two, Three}
use Rattle.page.specs.declared.types.Word.{Word}
use Rattle.page.specs.declared.types.Word.TheVariants.{Page, Close, Element, Mark, Save, Origin, Turn, Pen, Line, Paint, Text, Place, Show}
use Rattle.page.specs.declared.types.Refusal.{Refusal}
use Rattle.page.specs.declared.types.Refusal.TheVariants as refusal
use Rattle.page.specs.Numbers.{provided, kind_at, type_at, operator_at}
use Rattle.page.specs.Fields.{kind_of, payload_of, unsigned_a, unsigned_b, signed_a, signed_b, show_count, first_byte, second_byte, third_byte, is_side, is_turn, is_size, is_code}

-- A page of two sides.
abbrev pub page_of : ℕ → ℕ → Option Word
page_of width height = provided (is_side width && is_side height) (Page width height)

-- A word that has no payload.
abbrev pub bare_of : Word → ℕ → Option Word
bare_of word payload = provided (payload == 0) word

-- An element, if there is such a type.
abbrev pub element_of : ℕ → Option ElementType → Option Word
element_of parent None = None
element_of parent (Some role) = Some (Element parent role)

-- A turn by quarters.
abbrev pub turn_of : ℕ → Option Word
turn_of quarters = provided (is_turn quarters) (Turn quarters)

-- A paint word, if there is such an operator.
abbrev pub paint_of : Option PaintOperator → Option Word
paint_of None = None
paint_of (Some operator) = Some (Paint operator)

-- Text of a size.
abbrev pub text_of : ℕ → Option Word
text_of size = provided (is_size size) (Text size)

-- The first `count` of three bytes, if they are codes and the other bytes are 0.
abbrev pub codes_of : ℕ → ℕ → ℕ → ℕ → Option Codes
codes_of count x y z =
    if count == 1 then provided (is_code x && (y == 0 && z == 0)) (One x)
    else if count == 2 then provided (is_code x && (is_code y && z == 0)) (Two x y)
    else if count == 3 then provided (is_code x && (is_code y && is_code z)) (Three x y z)
    else None

-- A show word, if there are such codes.
abbrev pub show_of : Option Codes → Option Word
show_of None = None
show_of (Some codes) = Some (Show codes)

-- The word of a kind, if its payload is in the kind's range.
abbrev pub word_of : Kind → ℕ → Option Word
word_of kind.Page n = page_of (unsigned_a n) (unsigned_b n)
word_of kind.Close n = bare_of Close (payload_of n)
word_of kind.Element n = element_of (unsigned_a n) (type_at (unsigned_b n))
word_of kind.Mark n = Some (Mark (payload_of n))
word_of kind.Save n = bare_of Save (payload_of n)
word_of kind.Origin n = Some (Origin (signed_a n) (signed_b n))
word_of kind.Turn n = turn_of (payload_of n)
word_of kind.Pen n = Some (Pen (signed_a n) (signed_b n))
word_of kind.Line n = Some (Line (signed_a n) (signed_b n))
word_of kind.Paint n = paint_of (operator_at (payload_of n))
word_of kind.Text n = text_of (payload_of n)
word_of kind.Place n = Some (Place (signed_a n) (signed_b n))
word_of kind.Show n = show_of (codes_of (show_count n) (first_byte n) (second_byte n) (third_byte n))

-- What n says if its kind is this, or if it has none.
abbrev pub decoded_as : Option Kind → ℕ → Result Word Refusal
decoded_as None n = Err refusal.Kind
decoded_as (Some k) n = ok_or (word_of k n) refusal.Payload

-- What n says.
abbrev pub decoded : ℕ → Result Word Refusal
decoded n = decoded_as (kind_at (kind_of n)) n
