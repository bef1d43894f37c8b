-- A payload is refused exactly if it is not in its kind's range.
use Rattle.std.proofs.Common.{◌≡◌, ◌≢◌, ℕ, Bool, true, ◌&&◌, if◌then◌else◌, ◌⊎◌, Some, None, Option, refl, ◌∙◌, ⊎_elim, arith}
use Rattle.std.proofs.lemmas.Bool.Decides.{nat_tests}
use Rattle.std.specs.Prelude.{◌==◌}
use Rattle.page.specs.declared.types.Kind.{Kind}
use Rattle.page.specs.declared.types.Kind.TheVariants as kind
use Rattle.page.specs.declared.types.Word.{Word}
use Rattle.page.specs.declared.types.Codes.{Codes}
use Rattle.page.specs.Numbers.{kind_number, provided}
use Rattle.page.specs.Fields.{is_code, kind_of, payload_of, show_count, first_byte, second_byte, third_byte}
use Rattle.page.specs.Decoded.{codes_of, show_of, word_of}
use Rattle.page.specs.Laws.{InRange, Counted, Between}

abbrev Shows : ℕ → ℕ → ℕ → ℕ → Type 0
Shows count x y z = (Between 1 count 3) × Counted 1 count x × Counted 2 count y × Counted 3 count z

-- codes that can be shown are as many as are counted, and the other bytes are 0
counted_one : (count x y z : ℕ) → count ≡ 1 → (is_code x && (y == 0 && z == 0)) ≡ true → Shows count x y z
counted_one count x y z e t = search (arith, nat_tests)

counted_two : (count x y z : ℕ) → count ≡ 2 → (is_code x && (is_code y && z == 0)) ≡ true → Shows count x y z
counted_two count x y z e t = search (arith, nat_tests)

counted_three : (count x y z : ℕ) → count ≡ 3 → (is_code x && (is_code y && is_code z)) ≡ true → Shows count x y z
counted_three count x y z e t = search (arith, nat_tests)

picked : (count : ℕ) (p q s : Bool) (a b c codes : Codes) → (if count == 1 then provided p a else if count == 2 then provided q b else if count == 3 then provided s c else None) ≡ Some codes → ((count ≡ 1) × (p ≡ true)) ⊎ (((count ≡ 2) × (q ≡ true)) ⊎ ((count ≡ 3) × (s ≡ true)))
picked count p q s a b c codes e = grind (arith, nat_tests)

counted : (count x y z : ℕ) (codes : Codes) → codes_of count x y z ≡ Some codes → Shows count x y z
counted count x y z codes r =
    ⊎_elim (λ h. counted_one count x y z h.0 h.1)
    (⊎_elim (λ h. counted_two count x y z h.0 h.1) (λ h. counted_three count x y z h.0 h.1))
    (picked count _ _ _ _ _ _ codes r)

shown_codes : (o : Option Codes) (w : Word) → show_of o ≡ Some w → (codes : Codes) × (o ≡ Some codes)
shown_codes None w e = search arith
shown_codes (Some codes) w e = (codes, refl)

-- what was read is in its kind's range
pub in_range : (k : Kind) (n : ℕ) (w : Word) → kind_of n ≡ kind_number k → word_of k n ≡ Some w → InRange (kind_of n) (payload_of n)
in_range kind.Page n w e r = search (arith, nat_tests)
in_range kind.Close n w e r = search (arith, nat_tests)
in_range kind.Element n w e r = search (arith, nat_tests)
in_range kind.Mark n w e r = search (arith, nat_tests)
in_range kind.Save n w e r = search (arith, nat_tests)
in_range kind.Origin n w e r = search (arith, nat_tests)
in_range kind.Turn n w e r = search (arith, nat_tests)
in_range kind.Pen n w e r = search (arith, nat_tests)
in_range kind.Line n w e r = search (arith, nat_tests)
in_range kind.Paint n w e r = search (arith, nat_tests)
in_range kind.Text n w e r = search (arith, nat_tests)
in_range kind.Place n w e r = search (arith, nat_tests)
in_range kind.Show n w e r =
    let found = shown_codes (codes_of (show_count n) (first_byte n) (second_byte n) (third_byte n)) w r in
    let count : show_count (payload_of n) ≡ show_count n = omega arith in
    let first : first_byte (payload_of n) ≡ first_byte n = omega arith in
    let second : second_byte (payload_of n) ≡ second_byte n = omega arith in
    let third : third_byte (payload_of n) ≡ third_byte n = omega arith in
    let shows = counted (show_count (payload_of n)) (first_byte (payload_of n)) (second_byte (payload_of n)) (third_byte (payload_of n)) found.0 ((λ i. codes_of (count i) (first i) (second i) (third i)) ∙ found.1) in
    search (arith, nat_tests)

-- what is in its kind's range is read
pub read_in_range : (k : Kind) (n : ℕ) → kind_of n ≡ kind_number k → InRange (kind_of n) (payload_of n) → word_of k n ≢ None
read_in_range kind.Page n e h r = grind (arith, nat_tests)
read_in_range kind.Close n e h r = grind (arith, nat_tests)
read_in_range kind.Element n e h r = grind (arith, nat_tests)
read_in_range kind.Mark n e h r = grind (arith, nat_tests)
read_in_range kind.Save n e h r = grind (arith, nat_tests)
read_in_range kind.Origin n e h r = grind (arith, nat_tests)
read_in_range kind.Turn n e h r = grind (arith, nat_tests)
read_in_range kind.Pen n e h r = grind (arith, nat_tests)
read_in_range kind.Line n e h r = grind (arith, nat_tests)
read_in_range kind.Paint n e h r = grind (arith, nat_tests)
read_in_range kind.Text n e h r = grind (arith, nat_tests)
read_in_range kind.Place n e h r = grind (arith, nat_tests)
read_in_range kind.Show n e h r = grind (arith, nat_tests)
