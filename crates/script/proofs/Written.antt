-- The digits of a word are read back as the word.
use Rattle.std.proofs.Common.{◌≡◌, ℕ, zero, suc, ◌+◌, ◌*◌, ◌/◌, ◌%◌, ◌^◌, ◌<◌, true, ◌∷◌, Some, Ok, ap, ◌∙◌, mul_assoc, add-mul, mul_left_comm, arith}
use native.Mathlib.Nat.{pow-succ', one-le-pow}
use lib.Arith.{mod-mul}
use Rattle.std.specs.List.{AllByRecursion}
use Rattle.std.proofs.lemmas.Bool.Decides.{nat_tests}
use Rattle.script.specs.Digits.{hex_value, hex_digit, hex_digits, hex_of}
use Rattle.script.specs.Tokens.{digit_then, value_after, word_in}
use Rattle.script.specs.Readings.{in_token}

value_digit : (d : ℕ) → d < 16 → hex_value (hex_digit d) ≡ Some d
value_digit d h = grind (arith, nat_tests)

digit_in_token : (d : ℕ) → d < 16 → in_token (hex_digit d) ≡ true
digit_in_token d h = grind (arith, nat_tests)

pub digits_in_token : (k n : ℕ) → AllByRecursion (λ b. in_token b ≡ true) (hex_digits k n)
digits_in_token zero n = tt
digits_in_token (suc k) n = (digit_in_token (n / 16 ^ k % 16) (omega arith), digits_in_token k n)

one_digit : (k v n : ℕ) → (16 * v + n / 16 ^ k % 16) * 16 ^ k + n % 16 ^ k ≡ v * 16 ^ suc k + n % 16 ^ suc k
one_digit k v n =
    let p : ℕ = 16 ^ k in
    let d : ℕ = n / p % 16 in
    let e : 16 ^ suc k ≡ 16 * p = pow-succ' 16 k in
    let m : n % (16 * p) ≡ d * p + n % p = mod-mul n {m = 16} {c = p} (omega arith) (one-le-pow k 16 (omega arith)) in
    let left : (16 * v + d) * p ≡ 16 * v * p + d * p = add-mul (16 * v) d p in
    let here : 16 * v * p ≡ 16 * (v * p) = mul_assoc 16 v p in
    let there : v * (16 * p) ≡ 16 * (v * p) = mul_left_comm v 16 p in
    rw (e, m) (omega arith)

value_digits : (k v n : ℕ) → value_after k v (hex_digits k n) ≡ Ok (v * 16 ^ k + n % 16 ^ k)
value_digits zero v n = ap Ok (omega arith)
value_digits (suc k) v n =
    let d : ℕ = n / 16 ^ k % 16 in
    ap (λ o. digit_then o (suc k) v (λ r m. value_after r m (hex_digits k n))) (value_digit d (omega arith))
    ∙ value_digits k (16 * v + d) n
    ∙ ap Ok (one_digit k v n)

pub written_word : (w : ℕ) → w < 2 ^ 32 → word_in (48 ∷ 120 ∷ hex_of w) ≡ Ok w
unfolding word_in
written_word w h = value_digits 8 0 w ∙ ap Ok (omega arith)
