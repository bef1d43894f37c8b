-- Hexadecimal digits: the value of one, and the eight digits that write a word.
use Rattle.std.specs.Prelude.{ℕ, zero, suc, ◌+◌, ◌-◌, ◌/◌, ◌%◌, ◌^◌, cond, ◌&&◌, List, [], ◌∷◌, Some, None, Option, nat_le, nat_lt}

-- The value of a hexadecimal digit, upper or lower case; none for a byte that is no such digit.
abbrev pub hex_value : ℕ → Option ℕ
hex_value b =
    cond (nat_le 48 b && nat_le b 57) (Some (b - 48))
    (cond (nat_le 65 b && nat_le b 70) (Some (b - 55))
    (cond (nat_le 97 b && nat_le b 102) (Some (b - 87)) None))

-- The digit that writes a value below 16: 0 to 9, then A to F.
abbrev pub hex_digit : ℕ → ℕ
hex_digit d = cond (nat_lt d 10) (48 + d) (55 + d)

-- The last k hexadecimal digits of a number, the most significant first.
abbrev pub hex_digits : ℕ → ℕ → List ℕ
hex_digits zero n = []
hex_digits (suc k) n = hex_digit (n / 16 ^ k % 16) ∷ hex_digits k n

-- A word in eight digits.
abbrev pub hex_of : ℕ → List ℕ
hex_of word = hex_digits 8 word
