-- Words of 32 bits as four bytes each, the earliest byte in the top bits.
use Rattle.std.specs.Prelude.{ℕ, ◌+◌, ◌*◌, ◌/◌, ◌%◌, List, [], ◌∷◌, slice_index}
use Rattle.std.specs.List.{flat_map}

-- The four bytes of a word.
abbrev pub word_bytes : ℕ → List ℕ
word_bytes w = (w / 16777216 % 256) ∷ (w / 65536 % 256) ∷ (w / 256 % 256) ∷ (w % 256) ∷ []

-- The word of four bytes.
abbrev pub word_of : List ℕ → ℕ
word_of bs = slice_index bs 0 * 16777216 + slice_index bs 1 * 65536 + slice_index bs 2 * 256 + slice_index bs 3

-- The bytes of some words, in order.
abbrev pub flat : List ℕ → List ℕ
flat words = flat_map word_bytes words
