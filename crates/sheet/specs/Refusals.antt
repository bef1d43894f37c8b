-- The numbers of the refusals of a sheet and of a word.
use Rattle.std.specs.Prelude.{ℕ}
use Rattle.page.specs.Numbers.{number_of}
use Rattle.machine.specs.Refusals.{number_of as step_number}
use Rattle.machine.specs.declared.refusals.Refusal.TheVariants.{Limit as past_limit, Outside as out_of_range}
use Rattle.sheet.specs.declared.refusals.BeginRefusal.{BeginRefusal}
use Rattle.sheet.specs.declared.refusals.BeginRefusal.TheVariants.{Long, ShortTray, Begun, LittleRoom}
use Rattle.sheet.specs.declared.refusals.WordRefusal.{WordRefusal}
use Rattle.sheet.specs.declared.refusals.WordRefusal.TheVariants.{Unread, NotTaken, NoElement, Limit, Outside, NoRoom}

-- The number of a refusal to begin.
abbrev pub begin_number : BeginRefusal → ℕ
begin_number Long = 1
begin_number ShortTray = 2
begin_number Begun = 3
begin_number LittleRoom = 4

-- The number of a refusal of a word; where it is the machine's, the number is too.
abbrev pub word_number : WordRefusal → ℕ
word_number (Unread why) = number_of why
word_number NotTaken = 12
word_number NoElement = 13
word_number Limit = step_number past_limit
word_number Outside = step_number out_of_range
word_number NoRoom = 16
