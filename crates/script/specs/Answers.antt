-- What the calls answer, from what the text reads as.
use Rattle.std.specs.Prelude.{ℕ, ◌-◌, cond, List, [], ◌∷◌, ◌++◌, length, drop, Some, None, Ok, Err, Option, Result, nat_le}
use Rattle.script.specs.Lines.{position_of}
use Rattle.script.specs.Readings.{Step, finished, word, stuck, Halt, Reading}
use Rattle.script.specs.declared.token.Reason.{Reason}
use Rattle.script.specs.declared.scan.Fault.{Fault}
use Rattle.script.specs.declared.scan.Reader.{Reader}
use Rattle.script.specs.declared.load.ScriptFault.{ScriptFault}
use Rattle.script.specs.declared.load.ScriptFault.TheVariants.{Unreadable, TooMany}

-- The bytes that a reader has not yet passed.
abbrev pub left : Reader → List ℕ
left r = r.rest.now

-- A fault where the rest of the text begins.
abbrev pub fault_at : List ℕ → Reason → List ℕ → Fault
fault_at text why rest = record { place = position_of text (length text - length rest); reason = why }

-- A step as the reader tells it.
abbrev pub item_of : List ℕ → Step → Result (Option ℕ) Fault
item_of text finished = Ok None
item_of text (word w rest) = Ok (Some w)
item_of text (stuck why rest) = Err (fault_at text why rest)

-- A count, where nothing stopped the reading, or else the fault that did.
abbrev pub count_or : List ℕ → ℕ → Option Halt → Result ℕ Fault
count_or text n None = Ok n
count_or text n (Some h) = Err (fault_at text h.reason h.rest)

-- How many words a text has, or the fault of the first that cannot be read.
abbrev pub counted : List ℕ → Reading → Result ℕ Fault
counted text r = count_or text (length r.words) r.halt

-- The same for memory of so many words: more words than it takes are refused too.
abbrev pub within : ℕ → Result ℕ Fault → Result ℕ ScriptFault
within room (Ok n) = cond (nat_le n room) (Ok n) (Err (TooMany n))
within room (Err fault) = Err (Unreadable fault)

-- What the memory then holds: the words and what stood beyond them, or after a refusal what it held.
abbrev pub memory_by : Result ℕ ScriptFault → List ℕ → List ℕ → List ℕ
memory_by (Ok n) words memory = words ++ drop n memory
memory_by (Err fault) words memory = memory

-- Words over the front of a memory, as far as both go.
abbrev pub overlaid : List ℕ → List ℕ → List ℕ
overlaid [] memory = memory
overlaid (w ∷ ws) [] = []
overlaid (w ∷ ws) (m ∷ ms) = w ∷ overlaid ws ms
