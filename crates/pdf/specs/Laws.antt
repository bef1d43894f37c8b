-- The laws: what is written is read back, gaps do not matter, what is read has a written form, and each block
-- stands at its offset.
use Rattle.std.specs.Prelude.{◌≡◌, ℕ, ◌^◌, ◌<◌, ◌≤◌, Bool, true, not, List, [], ◌∷◌, ◌++◌, length, drop, ℤ, Some, None}
use Rattle.std.specs.Fmt.{signed_decimal}
use Rattle.pdf.specs.Bytes.{white, line_end, each, front, past, ends, stops}
use Rattle.pdf.specs.Numbers.{in_range, natural, number, padded}
use Rattle.pdf.specs.Tokens.{Token, token, written, writable}
use Rattle.pdf.specs.Values.{Value, value, value_at, items, entries, ref_after}
use Rattle.pdf.specs.Written.{render, fine}
use Rattle.pdf.specs.Blocks.{Block, whole, offset_of, bytes_of}

-- A run of bytes and what follows it are the whole; the run passes the test, and what follows does not go on with it.
pub record RunsAreLongest : Type 0 where
  pub whole_list : (p : ℕ → Bool) (bs : List ℕ) → front p bs ++ past p bs ≡ bs
  pub passing : (p : ℕ → Bool) (bs : List ℕ) → each p (front p bs) ≡ true
  pub ended : (p : ℕ → Bool) (bs : List ℕ) → ends p (past p bs) ≡ true

-- An integer in range that is written, with bytes after it that do not go on with it, is read back.
abbrev pub NumbersReadBack : Type 0
NumbersReadBack = (z : ℤ) (rest : List ℕ) → in_range z ≡ true → stops rest ≡ true → number (signed_decimal z ++ rest) ≡ Some (z, rest)

-- A number that has no more digits than the width is padded to the width, and read back.
pub record PaddedNumbersReadBack : Type 0 where
  pub width : (k n : ℕ) → length (padded k n) ≡ k
  pub read_back : (k n : ℕ) → 0 < k → n < 10 ^ k → natural (padded k n) ≡ Some n

-- A token that is written, with bytes after it that do not go on with it, is read back.
abbrev pub TokensReadBack : Type 0
TokensReadBack = (t : Token) (rest : List ℕ) → writable t ≡ true → stops rest ≡ true → token (written t ++ rest) ≡ Some (t, rest)

-- A byte that ends no line, as a comment has them.
abbrev pub in_line : ℕ → Bool
in_line c = not (line_end c)

-- White space and comments in front of tokens and values do not matter. A comment is %, what is in the line,
-- and the byte that ends the line; one that does not end leaves no token.
pub record GapsDoNotMatter : Type 0 where
  pub space : (c : ℕ) (bs : List ℕ) → white c ≡ true → token (c ∷ bs) ≡ token bs
  pub comment : (line : List ℕ) (e : ℕ) (bs : List ℕ) → each in_line line ≡ true → line_end e ≡ true → token (37 ∷ (line ++ (e ∷ bs))) ≡ token bs
  pub unended : (line : List ℕ) → each in_line line ≡ true → token (37 ∷ line) ≡ None
  pub value_space : (d c : ℕ) (bs : List ℕ) → white c ≡ true → value d (c ∷ bs) ≡ value d bs
  pub value_comment : (d : ℕ) (line : List ℕ) (e : ℕ) (bs : List ℕ) → each in_line line ≡ true → line_end e ≡ true → value d (37 ∷ (line ++ (e ∷ bs))) ≡ value d bs

-- A value that is written, with bytes after it that do not go on with it and do not make a number a reference,
-- is read back.
abbrev pub ValuesReadBack : Type 0
ValuesReadBack = (v : Value) (d : ℕ) (rest : List ℕ) → fine v d ≡ true → stops rest ≡ true → ref_after rest ≡ None → value d (render v ++ rest) ≡ Some (v, rest)

-- Each reading takes at least one byte. So no reading of an array or a dictionary runs out of steps: with more steps
-- than there are bytes it gives the same as with one for each byte.
pub record ReadingTakesBytes : Type 0 where
  pub by_token : (bs : List ℕ) (t : Token) (rest : List ℕ) → token bs ≡ Some (t, rest) → length rest < length bs
  pub by_value : (d : ℕ) (bs : List ℕ) (v : Value) (rest : List ℕ) → value d bs ≡ Some (v, rest) → length rest < length bs
  pub steps_of_items : (d k : ℕ) (bs : List ℕ) → length bs ≤ k → items (value_at d) k bs ≡ items (value_at d) (length bs) bs
  pub steps_of_entries : (d k : ℕ) (bs : List ℕ) → length bs ≤ k → entries (value_at d) k bs ≡ entries (value_at d) (length bs) bs

-- Whatever is read has a written form: its numbers are in range, its names have only bytes that may stand in one,
-- and it nests no deeper than was asked for. So what was read can be written, and is then read again.
pub record ReadingIsStrict : Type 0 where
  pub of_token : (bs : List ℕ) (t : Token) (rest : List ℕ) → token bs ≡ Some (t, rest) → writable t ≡ true
  pub of_value : (d : ℕ) (bs : List ℕ) (v : Value) (rest : List ℕ) → value d bs ≡ Some (v, rest) → fine v d ≡ true
  pub again : (d : ℕ) (bs : List ℕ) (v : Value) (rest : List ℕ) → value d bs ≡ Some (v, rest) → value d (render v) ≡ Some (v, [])

-- After a head, each block stands at its offset.
abbrev pub BlocksStandAtTheirOffsets : Type 0
BlocksStandAtTheirOffsets =
    (head : List ℕ) (bs : List Block) (rest : List ℕ) (n : ℕ) (x : List ℕ) → bytes_of n bs ≡ Some x → (more : List ℕ) × (drop (offset_of n (length head) bs) (head ++ (whole bs ++ rest)) ≡ x ++ more)
