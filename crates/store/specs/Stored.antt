-- The bytes by which a script is stored, and what is told of it.
use Rattle.std.specs.Prelude.{◌≡◌, ℕ, ◌≤◌, List, ◌++◌, length, codes, decimal}
use Rattle.sink.specs.declared.Sink.{Ghosts}
use Rattle.sink.specs.Meaning.{Puts}
use Rattle.flash.specs.Words.{flat}
use Rattle.store.specs.declared.report.Report.{Report}

-- A line that tells how many words there are, and then each word as four bytes, the top bits first.
unfoldable pub stored : List ℕ → List ℕ
stored words = (decimal (length words) ++ codes " words\n") ++ flat words

-- A report tells the truth of a sink with so many bytes and so much room: these, that nothing is held back,
-- and that no more was held back before than there are bytes.
pub record Told (r : Report) (count left : ℕ) : Type 0 where
  pub bytes : r.bytes ≡ count
  pub room : r.room ≡ left
  pub waits : r.waits ≡ 0
  pub waited : r.waited ≤ count

-- What a call says that stores words in a sink: all the words are put, or none; the sink is left settled, its memory the
-- bytes and then what lies beyond; and the report tells the truth.
pub record Stores {S : Type 0} (sink : Ghosts S) (r : Report) (words : List ℕ) (before later : S) : Type 0 where
  pub puts : Puts r.answer (stored words) (sink.view before) (sink.view later)
  pub none_held : sink.held later ≡ 0
  pub lands : sink.memory later ≡ (sink.view later).bytes ++ (sink.view later).beyond
  pub told : Told r (length (sink.view later).bytes) (sink.view later).room
