use Rattle.std.proofs.Common.{take}
use Rattle.sink.specs.Meaning.{Took}
use Rattle.flash.specs.Words.{flat}
use Rattle.store.proofs.put_words.Given as goal

abbrev pub invariant-loop-word : goal.invariant-loop-word
invariant-loop-word g l = Took (flat (take l.word-index l.words)) (g.S.Sink.view l.initial.sink) (g.S.Sink.view l.sink)
