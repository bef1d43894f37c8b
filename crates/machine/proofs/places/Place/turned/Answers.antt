-- Each quarter turns a place as it should, and keeps it near.
use Rattle.std.proofs.Common.{arith}
use Rattle.std.proofs.lemmas.Grind.{common_steps}
use Rattle.machine.proofs.places.Place.turned.Goals as goal

pub invariant_of-result : goal.invariant_of-result
invariant_of-result c = grind (arith, common_steps)

pub returns-clause-x : goal.returns-clause-x
returns-clause-x c = grind (arith, common_steps)

pub returns-clause-y : goal.returns-clause-y
returns-clause-y c = grind (arith, common_steps)
