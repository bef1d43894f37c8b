-- `shift` multiplies by the shift's matrix.
use Rattle.std.proofs.Common.{rules, arith}
use Rattle.std.proofs.lemmas.Int.{to_z-of_z}
use Rattle.std.proofs.lemmas.Grind.{common_steps}
use Rattle.machine.proofs.Allowed.{given, refused}
use Rattle.machine.proofs.Matrices.{shift_multiplies}
use Rattle.machine.proofs.machine.Machine.shift.Goals as goal

pub returns-in_err-self-clause-answer : goal.returns-in_err-self-clause-answer
returns-in_err-self-clause-answer c = let told = refused _ _ _ _ _ c.shifted.ensures c.in_err-self.was in search rules

pub returns : goal.returns
returns c =
    let told = given _ _ _ _ _ c.shifted.ensures c.in_ok-self.was in
    record { answer = search rules; after = search rules; matrix = grind (arith, common_steps, shift_multiplies, to_z-of_z) }
