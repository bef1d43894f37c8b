-- The step that a word asks of the machine.
use Rattle.std.specs.Prelude.{not, Some, None, Option, ◌==◌}
use Rattle.page.specs.declared.types.Word.{Word}
use Rattle.page.specs.declared.types.Word.TheVariants as word
use Rattle.machine.specs.declared.types.Step.{Step}
use Rattle.machine.specs.declared.types.Step.TheVariants.{Page, Close, Mark, Save, Origin, Turn, Pen, Line, Paint, Text, Place, Show}

-- The step of a word; an element word is none. A mark is owned if its element is not 0.
abbrev pub step_of : Word → Option Step
step_of (word.Page width height) = Some Page
step_of word.Close = Some Close
step_of (word.Element parent role) = None
step_of (word.Mark element) = Some (Mark (not (element == 0)))
step_of word.Save = Some Save
step_of (word.Origin a b) = Some (Origin a b)
step_of (word.Turn quarters) = Some (Turn quarters)
step_of (word.Pen a b) = Some (Pen a b)
step_of (word.Line a b) = Some (Line a b)
step_of (word.Paint operator) = Some (Paint operator)
step_of (word.Text size) = Some (Text size)
step_of (word.Place a b) = Some (Place a b)
step_of (word.Show codes) = Some (Show codes)
