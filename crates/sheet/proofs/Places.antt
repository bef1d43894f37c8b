-- A word leaves the places inside their range exactly if it moves none too far.
use Rattle.std.proofs.Common.{◌≡◌, ◌<◌, false, ◌&&◌, ℤ, refl, arith}
use Rattle.std.proofs.lemmas.Bool.{true≢false}
use Rattle.std.proofs.lemmas.Bool.Decides.{nat_tests}
use Rattle.page.specs.declared.types.Word.{Word}
use Rattle.page.specs.declared.types.Word.TheVariants as word
use Rattle.machine.specs.Axes.{within}
use Rattle.sheet.specs.Due.{Drawing, obeyed}
use Rattle.sheet.specs.Sheet.{Sheet}
use Rattle.sheet.specs.Run.{is_inside}
use Rattle.sheet.specs.Conditions.{magnitude, Far, MovedTooFar}
use Rattle.sheet.specs.Conditions.MovedTooFar.{offset, line}

-- a coordinate
far_outside : (z : ℤ) → 14400 < magnitude z → within z ≡ false
far_outside z h = grind (arith, nat_tests)

outside_far : (z : ℤ) → within z ≡ false → 14400 < magnitude z
outside_far z t = grind (arith, nat_tests)

one_far : (x y : ℤ) → (within x && within y) ≡ false → Far x y
one_far x y t = grind (arith, outside_far x, outside_far y)

-- a word that moves a place too far does not leave all inside, and one that does not leave all inside moves one place too far
pub moved_is_outside : (s : Sheet) (x : Word) → MovedTooFar x (obeyed s.drawing x) → is_inside s x ≡ false
moved_is_outside s x h = grind (arith, nat_tests, far_outside)

pub outside_moves_one : (s : Sheet) (x : Word) → is_inside s x ≡ false → MovedTooFar x (obeyed s.drawing x)
outside_moves_one s (word.Origin a b) t =
    let d : Drawing = obeyed s.drawing (word.Origin a b) in
    offset a b refl (one_far d.machine.numbers.axes.x d.machine.numbers.axes.y t)
outside_moves_one s (word.Place a b) t =
    let d : Drawing = obeyed s.drawing (word.Place a b) in
    line a b refl (one_far d.machine.numbers.line.x d.machine.numbers.line.y t)
outside_moves_one s x t = absurd (true≢false t)
