-- The numbers of a file's faults, and readers that may find one.
use Rattle.std.specs.Prelude.{ℕ, Some, None, Ok, Err, Option, Result}
use Rattle.sheet.specs.declared.faults.Fault.{Fault}
use Rattle.sheet.specs.declared.faults.FaultKind.{FaultKind}
use Rattle.sheet.specs.declared.faults.FaultKind.TheVariants.{Header, Table, Start, Syntax, Tree, Unknown, NotTaken, Limit}

-- The number of a fault.
abbrev pub fault_number : FaultKind → ℕ
fault_number Header = 22
fault_number Table = 23
fault_number Start = 24
fault_number Syntax = 25
fault_number Tree = 26
fault_number Unknown = 27
fault_number NotTaken = 28
fault_number Limit = 29

-- A fault of this kind, in this object or entry, at this offset.
abbrev pub fault : FaultKind → ℕ → ℕ → Fault
fault kind object offset = record { kind = kind; object = object; offset = offset }

-- What was read, or this fault if nothing was.
abbrev pub or_fault : {A : Type 0} → Option A → Fault → Result A Fault
or_fault None f = Err f
or_fault (Some a) f = Ok a

-- A reading, and one that goes on with what it found; the first fault counts.
abbrev pub and_then : {A B : Type 0} → Result A Fault → (A → Result B Fault) → Result B Fault
and_then (Err f) next = Err f
and_then (Ok a) next = next a
