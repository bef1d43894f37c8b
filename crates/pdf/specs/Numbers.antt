-- Integers as text: digits after at most one sign; and numbers padded with zeros to a width.
use Rattle.std.specs.Prelude.{ℕ, zero, suc, ◌+◌, ◌-◌, ◌*◌, ◌/◌, ◌%◌, Bool, cond, List, [], ◌∷◌, ◌++◌, ℤ, pos, negsuc, neg_ℤ, Some, None, Option, ◌==◌, nat_le}
use Rattle.pdf.specs.Bytes.{each, digit, regular, front, past}

-- The greatest number; the least is its negative.
abbrev pub greatest : ℕ
greatest = 2147483647

-- The integer is neither above the greatest nor below the least.
abbrev pub in_range : ℤ → Bool
in_range (pos n) = nat_le n greatest
in_range (negsuc n) = nat_le (suc n) greatest

-- The number that digits write after those of n.
abbrev pub read_on : ℕ → List ℕ → ℕ
read_on n [] = n
read_on n (c ∷ cs) = read_on (10 * n + (c - 48)) cs

-- The number that a list of digits writes, at least one digit and nothing else.
abbrev pub natural : List ℕ → Option ℕ
natural [] = None
natural (c ∷ cs) = cond (each digit (c ∷ cs)) (Some (read_on 0 (c ∷ cs))) None

-- The number, if it is not above the greatest.
abbrev pub positive : Option ℕ → Option ℤ
positive None = None
positive (Some n) = cond (nat_le n greatest) (Some (pos n)) None

-- The negative of the number, if the number is not above the greatest.
abbrev pub negative : Option ℕ → Option ℤ
negative None = None
negative (Some n) = cond (nat_le n greatest) (Some (neg_ℤ (pos n))) None

-- The integer that a list of bytes writes: digits, after a minus, a plus or nothing.
abbrev pub integer : List ℕ → Option ℤ
integer [] = None
integer (c ∷ cs) = cond (c == 45) (negative (natural cs)) (cond (c == 43) (positive (natural cs)) (positive (natural (c ∷ cs))))

-- An answer with the bytes that are left after it.
abbrev pub paired : {A : Type 0} → Option A → List ℕ → Option (A × List ℕ)
paired None bs = None
paired (Some a) bs = Some (a, bs)

-- The integer that the longest run of regular bytes writes, and what follows the run.
abbrev pub number : List ℕ → Option (ℤ × List ℕ)
number bs = paired (integer (front regular bs)) (past regular bs)

-- The last digits of n, as many as the width says, zeros in front.
abbrev pub padded : ℕ → ℕ → List ℕ
padded zero n = []
padded (suc width) n = padded width (n / 10) ++ ((48 + n % 10) ∷ [])
