-- Text starts with no advance, and each glyph adds as much.
use Rattle.std.proofs.Common.{arith}
use Rattle.std.proofs.lemmas.Grind.{common_steps}
use Rattle.machine.proofs.Matrices.{advances}
use Rattle.machine.proofs.machine.Machine.start_text.Goals as goal

pub returns-clause-spaced : goal.returns-clause-spaced
returns-clause-spaced c = λ xs. grind (arith, common_steps, advances)
