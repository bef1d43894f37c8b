use Rattle.std.proofs.Common.{[], ◌∷◌, arith, length-append}
use Rattle.sink.proofs.Grown.{took, puts_then, stays_if_fits}
use Rattle.lines.proofs.line.Goals as goal

pub returns : goal.returns
returns g c =
    let l = length-append c.args.text.now (10 ∷ []) in
    let first = took c.put.ensures.puts (omega (arith, c.room.ensures)) in
    let all = puts_then (omega (arith, c.room.ensures)) first c.put-2.ensures.puts in
    record { puts = all; stays = stays_if_fits (omega (arith, c.room.ensures)) all }
