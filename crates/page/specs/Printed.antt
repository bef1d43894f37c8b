-- What a word says, in plain terms.
use Rattle.std.specs.Prelude.{ℕ, List, ◌++◌, codes, encode_utf8, if◌then◌else◌, ◌==◌}
use Rattle.std.specs.Fmt.{decimal, signed_decimal}
use Rattle.page.specs.declared.types.Codes.{Codes}
use Rattle.page.specs.declared.types.Codes.TheVariants.{One, Two, Three}
use Rattle.page.specs.declared.types.Word.{Word}
use Rattle.page.specs.declared.types.Word.TheVariants.{Page, Close, Element, Mark, Save, Origin, Turn, Pen, Line, Paint, Text, Place, Show}
use Rattle.page.specs.Numbers.{name_of, letter_of}

-- The codes as characters.
abbrev pub codes_text : Codes → List ℕ
codes_text (One x) = encode_utf8 x
codes_text (Two x y) = encode_utf8 x ++ encode_utf8 y
codes_text (Three x y z) = encode_utf8 x ++ (encode_utf8 y ++ encode_utf8 z)

-- The kind of a word, and its fields. The element 0 of a mark is told as an artifact.
abbrev pub word_text : Word → List ℕ
word_text (Page width height) = codes "page width " ++ (decimal width ++ (codes " height " ++ decimal height))
word_text Close = codes "close"
word_text (Element parent role) = codes "element parent " ++ (decimal parent ++ (codes " type " ++ name_of role))
word_text (Mark element) = if element == 0 then codes "mark artifact" else codes "mark element " ++ decimal element
word_text Save = codes "save"
word_text (Origin a b) = codes "origin " ++ (signed_decimal a ++ (codes " " ++ signed_decimal b))
word_text (Turn quarters) = codes "turn " ++ decimal quarters
word_text (Pen a b) = codes "pen " ++ (signed_decimal a ++ (codes " " ++ signed_decimal b))
word_text (Line a b) = codes "line " ++ (signed_decimal a ++ (codes " " ++ signed_decimal b))
word_text (Paint operator) = codes "paint " ++ encode_utf8 (letter_of operator)
word_text (Text size) = codes "text size " ++ decimal size
word_text (Place a b) = codes "place " ++ (signed_decimal a ++ (codes " " ++ signed_decimal b))
word_text (Show shown) = codes "show " ++ codes_text shown
