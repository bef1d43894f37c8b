-- What is stored, and what is left to store.
use Rattle.std.proofs.Common.{◌≡◌, ◌++◌, take, drop}
use Rattle.script.specs.Readings.{reading_of}
use Rattle.script.specs.Answers.{left, overlaid}
use Rattle.script.proofs.load.fill.Given as goal

abbrev pub invariant-loop-slot : goal.invariant-loop-slot
invariant-loop-slot l =
    take l.slot-index l.words ++ overlaid (reading_of (left l.reader)).words (drop l.slot-index l.words)
    ≡ overlaid (reading_of l.text).words l.initial.words
