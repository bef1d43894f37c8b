-- What a sink means, and what its calls promise.
use Rattle.std.specs.Prelude.{◌≡◌, ℕ, ◌+◌, ◌-◌, ◌≤◌, false, cond, List, ◌∷◌, ◌++◌, length, take, drop, is_ok, IfErr, Ok, Err, Result, nat_le}
use Rattle.sink.specs.Refusals.{number_of}
use Rattle.sink.specs.declared.refusal.Refusal.{Refusal}
use Rattle.sink.specs.declared.refusal.Refusal.TheVariants.{Full}

-- The most bytes that a file, and so a sink, may have.
abbrev pub most_bytes : ℕ
most_bytes = 16777216

-- The meaning of a sink: its bytes in order; its room, the count of bytes that it still takes; the memory
-- past its bytes; and the loans through which it reaches that memory, as ghost names of the references.
pub record View : Type 0 where
  pub bytes : List ℕ
  pub room : ℕ
  pub beyond : List ℕ
  pub loans : List ℕ

-- What holds of every sink at every time, of its view, of how many bytes it holds back, and of its memory:
-- bytes and room together are no more than a file may have; the bytes that are not held back stand first in
-- the memory; and past the place of all its bytes the memory is what lies beyond.
pub record Lawful (v : View) (held : ℕ) (memory : List ℕ) : Type 0 where
  pub bounded : length v.bytes + v.room ≤ most_bytes
  pub few_held : held ≤ length v.bytes
  pub stored : take (length v.bytes - held) memory ≡ take (length v.bytes - held) v.bytes
  pub untouched : drop (length v.bytes) memory ≡ v.beyond

-- A sink that took this text: it stands after the bytes, the room is less by its length, and the memory
-- beyond it is as it was.
unfoldable pub grown : View → List ℕ → View
grown v text = record {
  bytes = v.bytes ++ text;
  room = v.room - length text;
  beyond = drop (length text) v.beyond;
  loans = v.loans;
}

-- The answer to n bytes at this much room: they are taken exactly if they are no more than the room.
abbrev pub answer : ℕ → ℕ → Result Unit Refusal
answer n room = cond (nat_le n room) (Ok tt) (Err Full)

-- A text is put whole, or refused by number 5 with nothing changed.
pub record Puts (r : Result Unit Refusal) (text : List ℕ) (before later : View) : Type 0 where
  pub answers : r ≡ answer (length text) before.room
  pub number : IfErr r (λ e. number_of e ≡ 5)
  pub leaves : later ≡ cond (is_ok r) (grown before text) before

-- Where a put is refused, what is held back and what lies in memory is as it was too.
pub record StaysIfRefused (r : Result Unit Refusal) (held held' : ℕ) (memory memory' : List ℕ) : Type 0 where
  pub held_stays : is_ok r ≡ false → held' ≡ held
  pub memory_stays : is_ok r ≡ false → memory' ≡ memory

-- What a call says that puts a text into a sink, whose meaning is told by view, held and memory: the text is
-- put whole, or refused with nothing changed.
pub record Writes {S : Type 0} (view : S → View) (held : S → ℕ) (memory : S → List ℕ) (r : Result Unit Refusal) (text : List ℕ) (before later : S) : Type 0 where
  pub puts : Puts r text (view before) (view later)
  pub stays : StaysIfRefused r (held before) (held later) (memory before) (memory later)

-- A sink that is reached through a loan of this ghost name.
abbrev pub lent : ℕ → View → View
lent loan v = record { bytes = v.bytes; room = v.room; beyond = v.beyond; loans = loan ∷ v.loans }

pub lent_lawful : {v : View} {held : ℕ} {memory : List ℕ} (loan : ℕ) → Lawful v held memory → Lawful (lent loan v) held memory
lent_lawful loan l = record { bounded = l.bounded; few_held = l.few_held; stored = l.stored; untouched = l.untouched }

-- A text was taken.
pub record Took (text : List ℕ) (before later : View) : Type 0 where
  pub is : later ≡ grown before text
