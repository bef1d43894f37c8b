-- Decoding and encoding undo each other.
use Rattle.std.proofs.Common.{◌≡◌, ℕ, ◌^◌, ◌<◌, Bool, true, ◌&&◌, ℤ, pos, negsuc, Some, Ok, ap, ◌∙◌, arith}
use Rattle.std.proofs.lemmas.Bool.Decides.{nat_tests}
use Rattle.std.proofs.lemmas.Int.{ints}
use Rattle.std.proofs.lemmas.Bool.{and_parts}
use Rattle.std.specs.Option.{ok_or}
use Rattle.page.specs.declared.types.Kind.{Kind}
use Rattle.page.specs.declared.types.Kind.TheVariants as kind
use Rattle.page.specs.declared.types.Codes.{Codes}
use Rattle.page.specs.declared.types.Codes.TheVariants.{One, Two, Three}
use Rattle.page.specs.declared.types.Word.{Word}
use Rattle.page.specs.declared.types.Word.TheVariants.{Page, Close, Element, Mark, Save, Origin, Turn, Pen, Line, Paint, Text, Place, Show}
use Rattle.page.specs.declared.types.Refusal.TheVariants as refusal
use Rattle.page.specs.Numbers.{provided, kind_at, kind_number, word_kind}
use Rattle.page.specs.Fields.{kind_of, unsigned_a, unsigned_b, signed_a, signed_b, signed, bits_of, is_signed, joined, fields, shown, show_count, first_byte, second_byte, third_byte}
use Rattle.page.specs.Decoded.{codes_of, show_of, word_of, decoded_as, decoded}
use Rattle.page.proofs.Tables.{kind_at_number}
use Rattle.page.specs.Encoded.{encoded, signed_fields}

-- what is provided by a test: the test held, and this is the value
provided_is : {X : Type 0} (holds : Bool) (x y : X) → provided holds x ≡ Some y → (holds ≡ true) × (x ≡ y)
provided_is holds x y e = grind arith

-- two's complement, there and back
signed_fits : (n : ℕ) → n < 2 ^ 14 → is_signed (signed n) ≡ true
signed_fits n h = grind (arith, nat_tests, ints)

bits_of_signed : (n : ℕ) → n < 2 ^ 14 → bits_of (signed n) ≡ n
bits_of_signed n h = grind (arith, nat_tests, ints)

signed_of_bits : (z : ℤ) → is_signed z ≡ true → signed (bits_of z) ≡ z
signed_of_bits (pos n) h = grind (arith, nat_tests, ints)
signed_of_bits (negsuc n) h = grind (arith, nat_tests, ints)

bits_short : (z : ℤ) → is_signed z ≡ true → bits_of z < 2 ^ 14
bits_short (pos n) h = grind (arith, nat_tests)
bits_short (negsuc n) h = grind (arith, nat_tests)

-- two signed fields, read and put together again
signed_back : (k : Kind) (n : ℕ) → kind_of n ≡ kind_number k → signed_fields k (signed_a n) (signed_b n) ≡ Some n
signed_back k n e =
    let fa = signed_fits (unsigned_a n) (omega arith) in
    let fb = signed_fits (unsigned_b n) (omega arith) in
    let ba = bits_of_signed (unsigned_a n) (omega arith) in
    let bb = bits_of_signed (unsigned_b n) (omega arith) in
    rw (fa, fb, ba, bb) (ap Some (omega arith))

-- the bits of a word that was read are those that it was read from
pub encoded_back : (k : Kind) (n : ℕ) (w : Word) → kind_of n ≡ kind_number k → word_of k n ≡ Some w → encoded w ≡ Some n
encoded_back kind.Page n w k e = grind (arith, nat_tests)
encoded_back kind.Close n w k e = grind (arith, nat_tests)
encoded_back kind.Element n w k e = grind (arith, nat_tests)
encoded_back kind.Mark n w k e = grind (arith, nat_tests)
encoded_back kind.Save n w k e = grind (arith, nat_tests)
encoded_back kind.Origin n w k e = cc (signed_back kind.Origin n k)
encoded_back kind.Turn n w k e = grind (arith, nat_tests)
encoded_back kind.Pen n w k e = cc (signed_back kind.Pen n k)
encoded_back kind.Line n w k e = cc (signed_back kind.Line n k)
encoded_back kind.Paint n w k e = grind (arith, nat_tests)
encoded_back kind.Text n w k e = grind (arith, nat_tests)
encoded_back kind.Place n w k e = cc (signed_back kind.Place n k)
encoded_back kind.Show n w k e = grind (arith, nat_tests)

-- what is read at a kind is a word of that kind
pub read_kind : (k : Kind) (n : ℕ) (w : Word) → word_of k n ≡ Some w → word_kind w ≡ k
read_kind kind.Page n w e = grind (arith, nat_tests)
read_kind kind.Close n w e = grind (arith, nat_tests)
read_kind kind.Element n w e = grind (arith, nat_tests)
read_kind kind.Mark n w e = grind (arith, nat_tests)
read_kind kind.Save n w e = grind (arith, nat_tests)
read_kind kind.Origin n w e = grind (arith, nat_tests)
read_kind kind.Turn n w e = grind (arith, nat_tests)
read_kind kind.Pen n w e = grind (arith, nat_tests)
read_kind kind.Line n w e = grind (arith, nat_tests)
read_kind kind.Paint n w e = grind (arith, nat_tests)
read_kind kind.Text n w e = grind (arith, nat_tests)
read_kind kind.Place n w e = grind (arith, nat_tests)
read_kind kind.Show n w e = grind (arith, nat_tests)

-- two signed fields, put together and read again
signed_parts : (k : Kind) (a b : ℤ) (n : ℕ) → signed_fields k a b ≡ Some n → (kind_of n ≡ kind_number k) × (signed_a n ≡ a) × (signed_b n ≡ b)
signed_parts k a b n e =
    let whole = provided_is (is_signed a && is_signed b) (joined k (fields (bits_of a) (bits_of b))) n e in
    let fit = and_parts (is_signed a) (is_signed b) whole.0 in
    let x = bits_short a fit.0 in
    let y = bits_short b fit.1 in
    let m = whole.1 in
    let ea : unsigned_a n ≡ bits_of a = omega arith in
    let eb : unsigned_b n ≡ bits_of b = omega arith in
    (omega arith, ap signed ea ∙ signed_of_bits a fit.0, ap signed eb ∙ signed_of_bits b fit.1)

-- what is read at the kind of n is what n says
decoded_from : (k : Kind) (n : ℕ) (w : Word) → kind_of n ≡ kind_number k → word_of k n ≡ Some w → decoded n ≡ Ok w
decoded_from k n w e r =
    ap (λ m. decoded_as (kind_at m) n) e ∙ ap (λ o. decoded_as o n) (kind_at_number k) ∙ ap (λ o. ok_or o refusal.Payload) r

-- a count and three bytes, put together and read again
shown_back : (n count x y z : ℕ) (codes : Codes) → joined kind.Show (shown count x y z) ≡ n → (count < 2 ^ 4) × (x < 2 ^ 8) × (y < 2 ^ 8) × (z < 2 ^ 8) → codes_of count x y z ≡ Some codes → decoded n ≡ Ok (Show codes)
shown_back n count x y z codes e short r =
    let c : show_count n ≡ count = omega arith in
    let first : first_byte n ≡ x = omega arith in
    let second : second_byte n ≡ y = omega arith in
    let third : third_byte n ≡ z = omega arith in
    decoded_from kind.Show n (Show codes) (omega arith) (ap show_of ((λ i. codes_of (c i) (first i) (second i) (third i)) ∙ r))

-- the word of bits that it was written as is that word
pub decoded_back : (w : Word) (n : ℕ) → encoded w ≡ Some n → decoded n ≡ Ok w
decoded_back (Page width height) n e = decoded_from kind.Page n (Page width height) (grind (arith, nat_tests)) (grind (arith, nat_tests))
decoded_back Close n e = decoded_from kind.Close n Close (grind (arith, nat_tests)) (grind (arith, nat_tests))
decoded_back (Element parent role) n e = decoded_from kind.Element n (Element parent role) (grind (arith, nat_tests)) (grind (arith, nat_tests))
decoded_back (Mark element) n e = decoded_from kind.Mark n (Mark element) (grind (arith, nat_tests)) (grind (arith, nat_tests))
decoded_back Save n e = decoded_from kind.Save n Save (grind (arith, nat_tests)) (grind (arith, nat_tests))
decoded_back (Origin a b) n e = let p = signed_parts kind.Origin a b n e in decoded_from kind.Origin n (Origin a b) p.0 (λ i. Some (Origin (p.1 i) (p.2 i)))
decoded_back (Turn quarters) n e = decoded_from kind.Turn n (Turn quarters) (grind (arith, nat_tests)) (grind (arith, nat_tests))
decoded_back (Pen a b) n e = let p = signed_parts kind.Pen a b n e in decoded_from kind.Pen n (Pen a b) p.0 (λ i. Some (Pen (p.1 i) (p.2 i)))
decoded_back (Line a b) n e = let p = signed_parts kind.Line a b n e in decoded_from kind.Line n (Line a b) p.0 (λ i. Some (Line (p.1 i) (p.2 i)))
decoded_back (Paint operator) n e = decoded_from kind.Paint n (Paint operator) (grind (arith, nat_tests)) (grind (arith, nat_tests))
decoded_back (Text size) n e = decoded_from kind.Text n (Text size) (grind (arith, nat_tests)) (grind (arith, nat_tests))
decoded_back (Place a b) n e = let p = signed_parts kind.Place a b n e in decoded_from kind.Place n (Place a b) p.0 (λ i. Some (Place (p.1 i) (p.2 i)))
decoded_back (Show (One x)) n e = shown_back n 1 x 0 0 (One x) (grind (arith, nat_tests)) (grind (arith, nat_tests)) (grind (arith, nat_tests))
decoded_back (Show (Two x y)) n e = shown_back n 2 x y 0 (Two x y) (grind (arith, nat_tests)) (grind (arith, nat_tests)) (grind (arith, nat_tests))
decoded_back (Show (Three x y z)) n e = shown_back n 3 x y z (Three x y z) (grind (arith, nat_tests)) (grind (arith, nat_tests)) (grind (arith, nat_tests))
