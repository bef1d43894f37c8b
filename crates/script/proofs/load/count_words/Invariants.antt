-- The words counted, and those that are left to read.
use Rattle.std.proofs.Common.{◌≡◌, ◌+◌, ◌≤◌, length}
use Rattle.script.specs.Readings.{reading_of}
use Rattle.script.specs.Answers.{left}
use Rattle.script.proofs.load.count_words.Given as goal

abbrev pub invariant-loop-count : goal.invariant-loop-count
invariant-loop-count l =
    record {
      text : l.reader.text.now ≡ l.text;
      words : l.count + length (reading_of (left l.reader)).words ≡ length (reading_of l.text).words;
      halt : (reading_of (left l.reader)).halt ≡ (reading_of l.text).halt;
      room : l.count + length (left l.reader) ≤ length l.text;
    }

abbrev pub decreases-loop-count : goal.decreases-loop-count
decreases-loop-count l = length (left l.reader)
