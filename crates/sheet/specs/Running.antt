-- What a page's contents draw: the page machine run by instructions.
use Rattle.std.specs.Prelude.{ℕ, zero, suc, ◌+◌, ◌-◌, Bool, true, false, not, ◌&&◌, ◌||◌, List, [], ◌∷◌, ◌++◌, length, take, drop, Some, None, Ok, Err, codes, Option, Result, ◌==◌, nat_le}
use Rattle.page.specs.declared.types.ElementType.{ElementType}
use Rattle.machine.specs.declared.types.Open.{Open}
use Rattle.machine.specs.declared.types.Open.TheVariants as open'
use Rattle.machine.specs.declared.types.Step.{Step}
use Rattle.machine.specs.declared.types.Step.TheVariants as step
use Rattle.machine.specs.Stack.{taken}
use Rattle.machine.specs.State.{within_limits, inside_range, most_saves_read}
use Rattle.pdf.specs.Bytes.{white}
use Rattle.pdf.specs.Lookups.{nat_of}
use Rattle.pdf.specs.Tokens.{token, skip}
use Rattle.pdf.specs.Values.{Value, is_word}
use Rattle.sheet.specs.declared.faults.Fault.{Fault}
use Rattle.sheet.specs.declared.faults.FaultKind.TheVariants as kind
use Rattle.sheet.specs.declared.instructions.Instruction.{Instruction}
use Rattle.sheet.specs.declared.instructions.Instruction.TheVariants.{Save, Restore, Origin, Turn, BeginText, Font, EndText, Mark, Artifact, EndMark, Move, Line, Paint, Place, Show}
use Rattle.sheet.specs.Due.{Drawing, stepped}
use Rattle.sheet.specs.Faults.{fault, or_fault, and_then}
use Rattle.sheet.specs.Instructions.{instruction_in, or_else}
use Rattle.sheet.specs.Lines.{bind, after}
use Rattle.sheet.specs.Objects.{value_in, after_end, syntax_of, object_in, PageObject, length_in}
use Rattle.sheet.specs.Table.{Index, when, after_token}
use Rattle.sheet.specs.Structure.{provided}

-- What running contents makes: the drawing, whether BT waits for its Tf, and the marks of the page: identifier and type.
pub record Running : Type 0 where
  pub drawing : Drawing
  pub waits : Bool
  pub marks : List (ℕ × ElementType)

-- The identifier was used on the page.
abbrev pub was_used : ℕ → List (ℕ × ElementType) → Bool
was_used i [] = false
was_used i (m ∷ ms) = m.0 == i || was_used i ms

-- The topmost open thing is a save, text or a mark.
pub record Top : Type 0 where
  pub save : Bool
  pub text : Bool
  pub mark : Bool

-- What the topmost open thing is.
abbrev pub top_of : List Open → Top
top_of [] = record { save = false; text = false; mark = false }
top_of (open'.Page ∷ stack) = record { save = false; text = false; mark = false }
top_of (open'.Save axes ∷ stack) = record { save = true; text = false; mark = false }
top_of (open'.Mark owned ∷ stack) = record { save = false; text = false; mark = true }
top_of (open'.Text ∷ stack) = record { save = false; text = true; mark = false }
top_of (open'.Path ∷ stack) = record { save = false; text = false; mark = false }

-- What is open while contents run.
abbrev pub stack_in : Running → List Open
stack_in r = r.drawing.machine.stack

-- The same with another drawing.
abbrev pub with_drawing : Running → Drawing → Running
with_drawing r d = record { drawing = d; waits = false; marks = r.marks }

-- A step of the machine, if it is taken and keeps the limits and ranges.
abbrev pub step_in : Fault → Fault → Running → Step → Result Running Fault
step_in untaken beyond r s =
    and_then (provided (taken (stack_in r) s) untaken) λ _.
    and_then (provided (within_limits most_saves_read r.drawing.machine s && inside_range r.drawing.machine s) beyond) λ _.
    Ok (with_drawing r (stepped r.drawing s))

-- The end of the topmost thing, if it is the one that the instruction ends.
abbrev pub close_in : Fault → Running → Bool → Result Running Fault
close_in untaken r fits = and_then (provided fits untaken) λ _. Ok (with_drawing r (stepped r.drawing step.Close))

-- The drawing in which the mark of this identifier is open.
abbrev pub identified : ℕ → Drawing → Drawing
identified i d = record { machine = d.machine; tree = d.tree; marks = i + 1; tagged = d.tagged }

-- A mark more on the page.
abbrev pub with_mark : ℕ → ElementType → Running → Result Running Fault
with_mark i role r = Ok (record { drawing = identified i r.drawing; waits = false; marks = r.marks ++ (i, role) ∷ [] })

-- BT waits for its Tf.
abbrev pub waiting : Running → Running
waiting r = record { drawing = r.drawing; waits = true; marks = r.marks }

-- An instruction where BT does not wait.
abbrev pub done_by : Fault → Fault → Running → Instruction → Result Running Fault
done_by untaken beyond r Save = step_in untaken beyond r step.Save
done_by untaken beyond r Restore = close_in untaken r (top_of (stack_in r)).save
done_by untaken beyond r (Origin a b) = step_in untaken beyond r (step.Origin a b)
done_by untaken beyond r (Turn quarters) = step_in untaken beyond r (step.Turn quarters)
done_by untaken beyond r BeginText = and_then (provided (taken (stack_in r) (step.Text 1)) untaken) λ _. Ok (waiting r)
done_by untaken beyond r (Font size) = Err untaken
done_by untaken beyond r EndText = close_in untaken r (top_of (stack_in r)).text
done_by untaken beyond r (Mark role i) =
    and_then (provided (not (was_used i r.marks)) untaken) λ _. and_then (step_in untaken beyond r (step.Mark true)) (with_mark i role)
done_by untaken beyond r Artifact = step_in untaken beyond r (step.Mark false)
done_by untaken beyond r EndMark = close_in untaken r (top_of (stack_in r)).mark
done_by untaken beyond r (Move a b) = step_in untaken beyond r (step.Pen a b)
done_by untaken beyond r (Line a b) = step_in untaken beyond r (step.Line a b)
done_by untaken beyond r (Paint operator) = step_in untaken beyond r (step.Paint operator)
done_by untaken beyond r (Place a b) = step_in untaken beyond r (step.Place a b)
done_by untaken beyond r (Show shown) = step_in untaken beyond r (step.Show shown)

-- The size of a font, if the instruction sets one.
abbrev pub size_in : Instruction → Option ℕ
size_in Save = None
size_in Restore = None
size_in (Origin a b) = None
size_in (Turn quarters) = None
size_in BeginText = None
size_in (Font size) = Some size
size_in EndText = None
size_in (Mark role i) = None
size_in Artifact = None
size_in EndMark = None
size_in (Move a b) = None
size_in (Line a b) = None
size_in (Paint operator) = None
size_in (Place a b) = None
size_in (Show shown) = None

-- Right after BT only Tf is taken: the two open text.
abbrev pub font_after : Fault → Running → Option ℕ → Result Running Fault
font_after untaken r None = Err untaken
font_after untaken r (Some size) = Ok (with_drawing r (stepped r.drawing (step.Text size)))

-- An instruction.
abbrev pub done : Fault → Fault → Running → Instruction → Result Running Fault
done untaken beyond r i = elim r.waits [ true ↦ font_after untaken r (size_in i) | false ↦ done_by untaken beyond r i ]

-- No byte is left.
abbrev pub nothing_left : List ℕ → Bool
nothing_left [] = true
nothing_left (b ∷ bs) = false

-- The instructions of contents, which end at `stop`: an instruction's offset is that of its first token.
unfoldable pub ran_through : ℕ → ℕ → ℕ → Running → List ℕ → Result Running Fault
ran_through zero c stop r bs = Ok r
ran_through (suc k) c stop r bs =
    let at : ℕ = stop - length (skip bs) in
    elim (nothing_left (skip bs)) [
      | true ↦ Ok r
      | false ↦
          and_then (or_fault (instruction_in bs) (fault kind.Unknown c at)) λ i.
          and_then (done (fault kind.NotTaken c at) (fault kind.Limit c at) r i.0) λ next. ran_through k c stop next i.1
    ]

-- Nothing is open but the page.
abbrev pub only_page : List Open → Bool
only_page [] = false
only_page (x ∷ []) = true
only_page (x ∷ y ∷ stack) = false

-- A white byte stands first.
abbrev pub white_first : List ℕ → Bool
white_first [] = false
white_first (b ∷ bs) = white b

-- The data of contents: as many bytes after `stream` and its line end as Length says, then white space, endstream and
-- endobj. With the data come all bytes from their start on.
abbrev pub data_in : ℕ → List ℕ → Option (List ℕ)
data_in n bs =
    bind (after_token (is_word (codes "stream")) (token bs)) λ rest.
    bind (or_else (after (10 ∷ []) rest) (after (13 ∷ 10 ∷ []) rest)) λ from.
    when (nat_le n (length from) && white_first (drop n from))
    (bind (after_token (is_word (codes "endstream")) (token (drop n from))) λ a. bind (after_end a) λ _. Some from)

-- The object of the Length of contents, and what follows their dictionary.
abbrev pub length_then : Index → Value × List ℕ → Option (ℕ × List ℕ)
length_then x r = bind (length_in x r.0) λ m. Some (m, r.1)

-- The drawing of a page's contents in the object c, after that of the pages before it, and the page's marks.
unfoldable pub page_run : List ℕ → Index → ℕ → Drawing → Result Running Fault
page_run file x c d =
    and_then (or_fault (bind (value_in file x c) (length_then x)) (syntax_of x c)) λ r.
    and_then (object_in file x nat_of r.0) λ n.
    and_then (or_fault (data_in n r.1) (syntax_of x c)) λ from.
    let stop : ℕ = length file - length from + n in
    let begun : Running = record { drawing = stepped d step.Page; waits = false; marks = [] } in
    and_then (ran_through (n + 1) c stop begun (take n from)) λ last.
    and_then (provided (only_page (stack_in last) && not last.waits) (fault kind.NotTaken c stop)) λ _.
    Ok (with_drawing last (stepped last.drawing step.Close))

-- The drawing of several pages, and the marks of each.
abbrev pub AllRun : Type 0
AllRun = Drawing × List (List (ℕ × ElementType))

-- The marks of one page more in front.
abbrev pub marks_then : List (ℕ × ElementType) → AllRun → Result AllRun Fault
marks_then ms r = Ok (r.0, ms ∷ r.1)

-- The drawing of these pages after that of the pages before them, and the marks of each.
abbrev pub pages_run : List ℕ → Index → Drawing → List PageObject → Result AllRun Fault
pages_run file x d [] = Ok (d, [])
pages_run file x d (p ∷ ps) = and_then (page_run file x p.contents d) λ r. and_then (pages_run file x r.drawing ps) (marks_then r.marks)
