-- A start stays within its range exactly where the placed line is given.
use Rattle.std.proofs.Common.{arith}
use Rattle.std.proofs.lemmas.Grind.{common_steps}
use Rattle.machine.proofs.Allowed.{told}
use Rattle.machine.proofs.machine.Machine.inside_range.Goals as goal

pub returns-in-Place : goal.returns-in-Place
returns-in-Place c = λ stack. grind (arith, common_steps, told)
