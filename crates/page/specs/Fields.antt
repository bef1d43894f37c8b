-- The fields of a word of 32 bits, and the ranges that they are held to.
use Rattle.std.specs.Prelude.{ℕ, suc, ◌+◌, ◌-◌, ◌*◌, ◌/◌, ◌%◌, ◌^◌, Bool, if◌then◌else◌, ◌&&◌, ℤ, pos, negsuc, ◌-ℤ◌, nat_le, nat_lt}
use Rattle.page.specs.declared.types.Kind.{Kind}
use Rattle.page.specs.Numbers.{kind_number}

-- The kind's number: the top four bits.
abbrev pub kind_of : ℕ → ℕ
kind_of n = n / 2 ^ 28

-- The payload: the 28 bits below the kind.
abbrev pub payload_of : ℕ → ℕ
payload_of n = n % 2 ^ 28

-- Field a, bits 27 to 14, without a sign.
abbrev pub unsigned_a : ℕ → ℕ
unsigned_a n = n / 2 ^ 14 % 2 ^ 14

-- Field b, bits 13 to 0, without a sign.
abbrev pub unsigned_b : ℕ → ℕ
unsigned_b n = n % 2 ^ 14

-- What fourteen bits stand for in two's complement.
abbrev pub signed : ℕ → ℤ
signed n = if nat_lt n (2 ^ 13) then pos n else (pos n -ℤ pos (2 ^ 14))

-- Field a with its sign.
abbrev pub signed_a : ℕ → ℤ
signed_a n = signed (unsigned_a n)

-- Field b with its sign.
abbrev pub signed_b : ℕ → ℤ
signed_b n = signed (unsigned_b n)

-- How many codes there are to show: bits 27 to 24.
abbrev pub show_count : ℕ → ℕ
show_count n = n / 2 ^ 24 % 2 ^ 4

-- The first byte to show: bits 23 to 16.
abbrev pub first_byte : ℕ → ℕ
first_byte n = n / 2 ^ 16 % 2 ^ 8

-- The second byte to show: bits 15 to 8.
abbrev pub second_byte : ℕ → ℕ
second_byte n = n / 2 ^ 8 % 2 ^ 8

-- The third byte to show: bits 7 to 0.
abbrev pub third_byte : ℕ → ℕ
third_byte n = n % 2 ^ 8

-- A kind above a payload.
abbrev pub joined : Kind → ℕ → ℕ
joined k payload = kind_number k * 2 ^ 28 + payload

-- Field a above field b.
abbrev pub fields : ℕ → ℕ → ℕ
fields a b = a * 2 ^ 14 + b

-- A count above three bytes.
abbrev pub shown : ℕ → ℕ → ℕ → ℕ → ℕ
shown count x y z = count * 2 ^ 24 + x * 2 ^ 16 + y * 2 ^ 8 + z

-- The fourteen bits of a number in two's complement.
abbrev pub bits_of : ℤ → ℕ
bits_of (pos n) = n
bits_of (negsuc n) = 2 ^ 14 - suc n

-- Whether fourteen bits hold a number in two's complement.
abbrev pub is_signed : ℤ → Bool
is_signed (pos n) = nat_lt n (2 ^ 13)
is_signed (negsuc n) = nat_lt n (2 ^ 13)

-- Whether a number is a page's width or height.
abbrev pub is_side : ℕ → Bool
is_side n = nat_le 3 n && nat_le n 14400

-- Whether a number is a count of quarter turns.
abbrev pub is_turn : ℕ → Bool
is_turn n = nat_le n 3

-- Whether a number is a size of text.
abbrev pub is_size : ℕ → Bool
is_size n = nat_le 1 n && nat_le n 144

-- Whether a byte is a code to show.
abbrev pub is_code : ℕ → Bool
is_code n = nat_le 32 n && nat_le n 126
