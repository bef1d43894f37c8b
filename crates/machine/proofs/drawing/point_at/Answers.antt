-- A point stands where the matrix of the axes puts it.
use Rattle.std.proofs.Common.{rules}
use Rattle.std.proofs.lemmas.Int.{to_z-of_z}
use Rattle.machine.proofs.Matrices.{point_stands, tenfold_x, tenfold_y}
use Rattle.machine.proofs.drawing.point_at.Goals as goal

pub returns : goal.returns
returns c =
    let law = point_stands c.args.shape c.args.axes c.args.a c.args.b in
    let across = tenfold_x c.args.axes.turn c.args.a c.args.b in
    let up = tenfold_y c.args.axes.turn c.args.a c.args.b in
    record { value = search (rules, to_z-of_z); stands = search (rules, to_z-of_z) }
