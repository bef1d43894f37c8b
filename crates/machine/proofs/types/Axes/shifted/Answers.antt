-- Shifted axes are given exactly where the place that is added is within its range.
use Rattle.std.proofs.Common.{arith}
use Rattle.std.proofs.lemmas.Int.{to_z-of_z}
use Rattle.std.proofs.lemmas.Grind.{common_steps}
use Rattle.machine.proofs.Allowed.{given, refused}
use Rattle.machine.proofs.types.Axes.shifted.Goals as goal

pub returns-in_err-x : goal.returns-in_err-x
returns-in_err-x c = let told = refused _ _ _ _ _ c.added_to.ensures c.in_err-x.was in grind (arith, common_steps, to_z-of_z)

pub returns : goal.returns
returns c = let told = given _ _ _ _ _ c.added_to.ensures c.in_ok-x.was in grind (arith, common_steps, to_z-of_z)
