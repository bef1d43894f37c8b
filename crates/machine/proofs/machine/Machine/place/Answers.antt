-- `place` moves the start exactly where the placed line is given.
use Rattle.std.proofs.Common.{rules}
use Rattle.machine.proofs.Allowed.{given, refused}
use Rattle.machine.proofs.machine.Machine.place.Goals as goal

pub invariant_of-self : goal.invariant_of-self
invariant_of-self c = let told = given _ _ _ _ _ c.placed.ensures c.in_ok-self.was in search rules

pub returns-in_err-self-clause-answer : goal.returns-in_err-self-clause-answer
returns-in_err-self-clause-answer c = let told = refused _ _ _ _ _ c.placed.ensures c.in_err-self.was in search rules

pub returns : goal.returns
returns c = let told = given _ _ _ _ _ c.placed.ensures c.in_ok-self.was in search rules
