-- Room for a digit more.
use Rattle.std.proofs.Common.{◌≡◌, ℕ, ◌^◌, ◌<◌, ◌≤◌, get_or, Some, arith}
use native.Mathlib.Nat.{pow-le-pow_right}
use Rattle.std.proofs.lemmas.Bool.Decides.{nat_tests}
use Rattle.script.specs.Digits.{hex_value}
use Rattle.script.proofs.token.value_of.Goals as goal

-- A digit is below sixteen, so eight of them stay below 2 ^ 32.
digit_below : (b d : ℕ) → Some d ≡ hex_value b → d < 16
digit_below b d e = grind (arith, nat_tests)

room_for_digit : (v i : ℕ) → v < 16 ^ i → i < 8 → v < 2 ^ 28
room_for_digit v i h l = let p : 16 ^ i ≤ 16 ^ 7 = pow-le-pow_right {n = 16} (omega arith) {i = i} {j = 7} (omega arith) in omega arith

pub overflow_mul-value : goal.overflow_mul-value
overflow_mul-value c = omega (arith, room_for_digit c.loop-i.value c.loop-i.i c.loop-i.invariant.small (omega arith))

pub overflow_add-value : goal.overflow_add-value
overflow_add-value c =
    let d = digit_below (get_or c.args.digits.now c.loop-i.i 0) c.in_ok-digit.digit (grind arith) in
    omega (arith, room_for_digit c.loop-i.value c.loop-i.i c.loop-i.invariant.small (omega arith))
