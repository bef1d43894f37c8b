-- The 32 bits of a word, if each of its fields is in range.
use Rattle.std.specs.Prelude.{ℕ, ◌^◌, ◌&&◌, ℤ, Some, Option, nat_lt}
use Rattle.std.specs.Option.{option_map}
use Rattle.page.specs.declared.fields.Payload.{Payload}
use Rattle.page.specs.declared.types.Kind.{Kind}
use Rattle.page.specs.declared.types.Kind.TheVariants as kind
use Rattle.page.specs.declared.types.Codes.{Codes}
use Rattle.page.specs.declared.types.Codes.TheVariants.{One, Two, Three}
use Rattle.page.specs.declared.types.Word.{Word}
use Rattle.page.specs.declared.types.Word.TheVariants.{Page, Close, Element, Mark, Save, Origin, Turn, Pen, Line, Paint, Text, Place, Show}
use Rattle.page.specs.Numbers.{provided, type_number, operator_number}
use Rattle.page.specs.Fields.{joined, fields, shown, bits_of, is_signed, is_side, is_turn, is_size, is_code}

-- The bits of a kind with two signed fields.
abbrev pub signed_fields : Kind → ℤ → ℤ → Option ℕ
signed_fields k a b = provided (is_signed a && is_signed b) (joined k (fields (bits_of a) (bits_of b)))

-- The bits of codes to show.
abbrev pub encoded_codes : Codes → Option ℕ
encoded_codes (One x) = provided (is_code x) (joined kind.Show (shown 1 x 0 0))
encoded_codes (Two x y) = provided (is_code x && is_code y) (joined kind.Show (shown 2 x y 0))
encoded_codes (Three x y z) = provided (is_code x && (is_code y && is_code z)) (joined kind.Show (shown 3 x y z))

-- The bits of a kind and a payload, if there is one.
abbrev pub with_payload : Kind → Option Payload → Option ℕ
with_payload k payload = option_map (λ p. joined k p.bits) payload

-- The bits of a word.
abbrev pub encoded : Word → Option ℕ
encoded (Page width height) = provided (is_side width && is_side height) (joined kind.Page (fields width height))
encoded Close = Some (joined kind.Close 0)
encoded (Element parent role) = provided (nat_lt parent (2 ^ 14)) (joined kind.Element (fields parent (type_number role)))
encoded (Mark element) = provided (nat_lt element (2 ^ 28)) (joined kind.Mark element)
encoded Save = Some (joined kind.Save 0)
encoded (Origin a b) = signed_fields kind.Origin a b
encoded (Turn quarters) = provided (is_turn quarters) (joined kind.Turn quarters)
encoded (Pen a b) = signed_fields kind.Pen a b
encoded (Line a b) = signed_fields kind.Line a b
encoded (Paint operator) = Some (joined kind.Paint (operator_number operator))
encoded (Text size) = provided (is_size size) (joined kind.Text size)
encoded (Place a b) = signed_fields kind.Place a b
encoded (Show codes) = encoded_codes codes
