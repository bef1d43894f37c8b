use Rattle.std.proofs.Common.{◌≡◌}
use lib.Seq.{paste}
use Rattle.flash.specs.Words.{flat}
use Rattle.flash.proofs.WordsLayout.write.Given as goal

abbrev pub invariant-loop-i : goal.invariant-loop-i
invariant-loop-i l = flat l.words ≡ paste (flat l.initial.words) l.at l.part l.i
