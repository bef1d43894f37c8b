-- A glyph stands where the matrix of the axes puts it.
use Rattle.std.proofs.Common.{rules}
use Rattle.std.proofs.lemmas.Int.{to_z-of_z}
use Rattle.machine.proofs.Matrices.{glyph_stands}
use Rattle.machine.proofs.drawing.glyph_at.Goals as goal

pub returns-clause-stands : goal.returns-clause-stands
returns-clause-stands c = let law = glyph_stands c.args.numbers c.args.code in search (rules, to_z-of_z)
