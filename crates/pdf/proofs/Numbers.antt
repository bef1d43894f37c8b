-- Integers that are written are read back, and padded numbers too.
use Rattle.std.proofs.Common.{◌≡◌, ℕ, zero, suc, ◌+◌, ◌-◌, ◌*◌, ◌/◌, ◌%◌, ◌^◌, ◌<◌, true, List, [], ◌∷◌, ◌++◌, length, ℤ, pos, negsuc, Some, decimal, refl, ap, ◌∙◌, div-lt_iff_lt-mul, pow-suc, arith, length-append, rules}
use Rattle.std.specs.Prelude.{nat_le}
use Rattle.std.specs.Fmt.{signed_decimal}
use Rattle.std.proofs.lemmas.Bool.Decides.{nat_tests}
use Rattle.std.proofs.lemmas.Bool.{leb-true}
use Rattle.std.proofs.lemmas.List.Recursion.{and_push}
use Rattle.std.proofs.lemmas.Str.Parse.{IsNumeralModel, numerals_by_fold}
use Rattle.std.proofs.lemmas.Fmt.{digits_decimal, digits_value-decimal, decimal_nonempty}
use Rattle.pdf.specs.Bytes.{each, digit, regular}
use Rattle.pdf.specs.Numbers.{greatest, in_range, read_on, natural, positive, negative, integer, padded}
use Rattle.pdf.specs.Laws.{NumbersReadBack, PaddedNumbersReadBack}
use Rattle.pdf.proofs.Runs.{front_is, past_is, each_wider, digit_regular}

-- The digits and their value are those that the library's decimals speak of.
own : IsNumeralModel (λ ds. each digit ds ≡ true) (read_on 0)
own = numerals_by_fold _ (search rules) read_on (search rules)

-- A number in range has less than 64 bits.
small : (n : ℕ) → nat_le n greatest ≡ true → n < 2 ^ 64
small n h = omega (arith, leb-true n greatest h)

pub decimal_digits : (n : ℕ) → nat_le n greatest ≡ true → each digit (decimal n) ≡ true
decimal_digits n h = digits_decimal own n (small n h)

pub natural_of : (ds : List ℕ) (n : ℕ) → each digit ds ≡ true → 0 < length ds → read_on 0 ds ≡ n → natural ds ≡ Some n
natural_of ds n h l e = grind arith

pub natural_decimal : (n : ℕ) → nat_le n greatest ≡ true → natural (decimal n) ≡ Some n
natural_decimal n h = natural_of (decimal n) n (decimal_digits n h) (decimal_nonempty n (small n h)) (digits_value-decimal own n (small n h))

-- Digits have no sign in front.
unsigned : (ds : List ℕ) → each digit ds ≡ true → integer ds ≡ positive (natural ds)
unsigned ds h = grind (arith, nat_tests)

pub integer_signed : (z : ℤ) → in_range z ≡ true → integer (signed_decimal z) ≡ Some z
integer_signed (pos n) h = unsigned (decimal n) (decimal_digits n h) ∙ (ap positive (natural_decimal n h) ∙ rw h)
integer_signed (negsuc n) h = ap negative (natural_decimal (suc n) h) ∙ rw h

pub signed_regular : (z : ℤ) → in_range z ≡ true → each regular (signed_decimal z) ≡ true
signed_regular (pos n) h = each_wider digit regular digit_regular (decimal n) (decimal_digits n h)
signed_regular (negsuc n) h = each_wider digit regular digit_regular (decimal (suc n)) (decimal_digits (suc n) h)

pub signed_any : (z : ℤ) → in_range z ≡ true → 0 < length (signed_decimal z)
signed_any (pos n) h = decimal_nonempty n (small n h)
signed_any (negsuc n) h = omega arith

pub numbers_read_back : NumbersReadBack
numbers_read_back z rest h s =
    rw (front_is regular (signed_decimal z) rest (signed_regular z h) s, past_is regular (signed_decimal z) rest (signed_regular z h) s, integer_signed z h)

read_on_push : (a : ℕ) (xs : List ℕ) (c : ℕ) → read_on a (xs ++ (c ∷ [])) ≡ 10 * read_on a xs + (c - 48)
read_on_push a [] c = refl
read_on_push a (x ∷ xs) c = read_on_push (10 * a + (x - 48)) xs c

padded_digits : (k n : ℕ) → each digit (padded k n) ≡ true
padded_digits zero n = refl
padded_digits (suc k) n = rw (and_push (each digit) digit refl (λ _ _. refl) (padded k (n / 10)) (48 + n % 10), padded_digits k (n / 10)) (grind (arith, nat_tests))

padded_value : (k n : ℕ) → n < 10 ^ k → read_on 0 (padded k n) ≡ n
padded_value zero n h = omega arith
padded_value (suc k) n h =
    let less : n / 10 < 10 ^ k = (div-lt_iff_lt-mul {k = 10} (omega arith)).1 (rw pow-suc at h) in
    omega (arith, read_on_push 0 (padded k (n / 10)) (48 + n % 10), padded_value k (n / 10) less)

pub padded_length : (k n : ℕ) → length (padded k n) ≡ k
padded_length zero n = refl
padded_length (suc k) n = simp length-append (omega (arith, padded_length k (n / 10)))

pub padded_numbers_read_back : PaddedNumbersReadBack
padded_numbers_read_back =
    record {
      width = padded_length;
      read_back = λ k n some h. natural_of (padded k n) n (padded_digits k n) (omega (arith, padded_length k n)) (padded_value k n h);
    }
