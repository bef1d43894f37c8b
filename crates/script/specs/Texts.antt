-- What the faults of a script are in a line of text.
use Rattle.std.specs.Prelude.{ℕ, List, ◌++◌, codes}
use Rattle.std.specs.Fmt.{decimal}
use Rattle.script.specs.Tokens.{message_of}
use Rattle.script.specs.declared.scan.Fault.{Fault}
use Rattle.script.specs.declared.load.ScriptFault.{ScriptFault}
use Rattle.script.specs.declared.load.ScriptFault.TheVariants.{Unreadable, TooMany}

-- Where a token that cannot be read stands, and why it cannot.
abbrev pub fault_text : Fault → List ℕ
fault_text fault = codes "line " ++ decimal fault.place.line ++ codes ", column " ++ decimal fault.place.column ++ codes ": " ++ message_of fault.reason

-- Why a script is refused.
abbrev pub script_fault_text : ScriptFault → List ℕ
script_fault_text (Unreadable fault) = fault_text fault
script_fault_text (TooMany count) = decimal count ++ codes " words are more than the memory takes"
