-- The words stored, and what stood beyond them.
use Rattle.std.proofs.Common.{◌++◌, drop, sym, ap, ◌∙◌, arith}
use Rattle.script.specs.Readings.{reading_of}
use Rattle.script.proofs.Taken.{count_is, overlaid_whole}
use Rattle.script.proofs.load.read_script.Goals as goal

pub returns-clause-memory : goal.returns-clause-memory
returns-clause-memory c =
    let r = reading_of c.args.text.now in
    let n = count_is c.args.text.now r c.in_ok-count.count c.in_ok-count.ensures in
    c.fill.ensures ∙ overlaid_whole r.words c.args.words.now (omega arith) ∙ ap (λ k. r.words ++ drop k c.args.words.now) (sym n)
