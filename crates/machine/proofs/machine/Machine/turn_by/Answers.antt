-- Turning multiplies by the turn's matrix.
use Rattle.std.proofs.Common.{arith}
use Rattle.std.proofs.lemmas.Grind.{common_steps}
use Rattle.machine.proofs.Matrices.{turn_multiplies}
use Rattle.machine.proofs.machine.Machine.turn_by.Goals as goal

pub returns-clause-matrix : goal.returns-clause-matrix
returns-clause-matrix c = grind (arith, common_steps, turn_multiplies)
