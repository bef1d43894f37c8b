-- A token, the bytes that stand for one word of a script, and the number that it writes.
use Rattle.std.specs.Prelude.{ℕ, zero, suc, ◌+◌, ◌*◌, Bool, cond, ◌&&◌, ◌||◌, List, [], ◌∷◌, Some, None, Ok, Err, codes, Option, Result, ◌==◌}
use Rattle.script.specs.Digits.{hex_value}
use Rattle.script.specs.declared.token.Reason.{Reason}
use Rattle.script.specs.declared.token.Reason.TheVariants.{NotHexadecimal, NoDigit, TooLong}

-- Each reason in words.
abbrev pub message_of : Reason → List ℕ
message_of NotHexadecimal = codes "not a hexadecimal digit"
message_of NoDigit = codes "no digit"
message_of TooLong = codes "more than eight digits"

-- The bytes 0x or 0X.
abbrev pub is_prefix : ℕ → ℕ → Bool
is_prefix a b = a == 48 && (b == 120 || b == 88)

-- What follows 0x or 0X, or the whole token where it begins otherwise.
abbrev pub digits_in : List ℕ → List ℕ
digits_in [] = []
digits_in (a ∷ []) = a ∷ []
digits_in (a ∷ b ∷ cs) = cond (is_prefix a b) cs (a ∷ b ∷ cs)

-- One digit after the number n: no digit, or no room for one more, ends the reading.
abbrev pub digit_then : Option ℕ → ℕ → ℕ → (ℕ → ℕ → Result ℕ Reason) → Result ℕ Reason
digit_then None room n rest = Err NotHexadecimal
digit_then (Some d) zero n rest = Err TooLong
digit_then (Some d) (suc room) n rest = rest room (16 * n + d)

-- The number that digits write after the number n, with room for so many of them; or the first
-- reason, from left to right, why they write none.
abbrev pub value_after : ℕ → ℕ → List ℕ → Result ℕ Reason
value_after room n [] = Ok n
value_after room n (b ∷ bs) = digit_then (hex_value b) room n (λ k m. value_after k m bs)

-- The number of one to eight digits.
abbrev pub value_of : List ℕ → Result ℕ Reason
value_of [] = Err NoDigit
value_of (b ∷ bs) = value_after 8 0 (b ∷ bs)

-- The word that a token writes, or why it writes none.
unfoldable pub word_in : List ℕ → Result ℕ Reason
word_in token = value_of (digits_in token)
