-- What calls over any sink promise, from the words by which the sink tells its meaning.
use Rattle.std.specs.Prelude.{ℕ, List, Result}
use Rattle.sink.specs.declared.Sink.{Ghosts}
use Rattle.sink.specs.declared.refusal.Refusal.{Refusal}
use Rattle.sink.specs.Meaning.{Writes}

-- The sink takes a text whole, or refuses it with nothing changed.
abbrev pub Takes : {S : Type 0} → Ghosts S → Result Unit Refusal → List ℕ → S → S → Type 0
Takes sink r text before later = Writes sink.view sink.held sink.memory r text before later
