-- The state of the machine, what a step makes of it, its limits, and what a step draws.
use Rattle.std.specs.Prelude.{◌≡◌, ℕ, ◌+◌, ◌*◌, Bool, true, cond, ◌&&◌, List, [], ◌∷◌, ℤ, pos, ◌+ℤ◌, ◌*ℤ◌, nat_le, nat_lt}
use Rattle.page.specs.Numbers.{count_of, operator_number}
use Rattle.page.specs.declared.types.Codes.{Codes}
use Rattle.page.specs.declared.types.Codes.TheVariants.{One, Two, Three}
use Rattle.machine.specs.declared.types.Axes.{Axes}
use Rattle.machine.specs.declared.types.Counts.{Counts}
use Rattle.machine.specs.declared.types.Drawn.{Drawn}
use Rattle.machine.specs.declared.types.Letter.{Letter}
use Rattle.machine.specs.declared.types.Letter.TheVariants as letter
use Rattle.machine.specs.declared.types.Numbers.{Numbers}
use Rattle.machine.specs.declared.types.Open.{Open}
use Rattle.machine.specs.declared.types.Open.TheVariants.{Page, Save, Mark, Text, Path}
use Rattle.machine.specs.declared.types.Step.{Step}
use Rattle.machine.specs.declared.types.Step.TheVariants as step
use Rattle.machine.specs.declared.types.TextLine.{TextLine}
use Rattle.machine.specs.Axes.{rotated_x, rotated_y, first_axes, shifted, turned, within, axes_inside}
use Rattle.machine.specs.Stack.{path_in, saves_in}

-- The most pages.
abbrev pub most_pages : ℕ
most_pages = 64

-- The most marks that belong to an element.
abbrev pub most_marks : ℕ
most_marks = 1024

-- The most glyphs and points.
abbrev pub most_drawn : ℕ
most_drawn = 2048

-- The most saves that are open at a time for the writer.
abbrev pub most_saves_written : ℕ
most_saves_written = 28

-- The most saves that are open at a time for the reader.
abbrev pub most_saves_read : ℕ
most_saves_read = 28

-- The numbers before the first page.
abbrev pub no_numbers : Numbers
no_numbers = record {
  axes = first_axes;
  line = record { x = pos 0; y = pos 0; advance = 0; size = 0 };
  counts = record { drawn = 0; marks = 0; pages = 0 };
}

-- The numbers with other axes.
abbrev pub with_axes : Numbers → Axes → Numbers
with_axes n at = record { axes = at; line = n.line; counts = n.counts }

-- The numbers with another line of text.
abbrev pub with_line : Numbers → TextLine → Numbers
with_line n l = record { axes = n.axes; line = l; counts = n.counts }

-- The numbers with other counts.
abbrev pub with_counts : Numbers → Counts → Numbers
with_counts n k = record { axes = n.axes; line = n.line; counts = k }

-- One page more, with its axes as at the start.
abbrev pub page_started : Numbers → Numbers
page_started n = with_axes (with_counts n (record { drawn = n.counts.drawn; marks = n.counts.marks; pages = n.counts.pages + 1 })) first_axes

-- One mark more, if it belongs to an element.
abbrev pub mark_started : Numbers → Bool → Numbers
mark_started n owned = with_counts n (record { drawn = n.counts.drawn; marks = n.counts.marks + cond owned 1 0; pages = n.counts.pages })

-- One glyph or point more.
abbrev pub one_drawn : Numbers → Numbers
one_drawn n = with_counts n (record { drawn = n.counts.drawn + 1; marks = n.counts.marks; pages = n.counts.pages })

-- The line of text at the start of text of this size.
abbrev pub text_started : Numbers → ℕ → Numbers
text_started n s = with_line n (record { x = pos 0; y = pos 0; advance = 0; size = s })

-- A line of text with its start moved by (a, b), and no advance.
abbrev pub placed : TextLine → ℤ → ℤ → TextLine
placed l a b = record { x = l.x +ℤ a; y = l.y +ℤ b; advance = 0; size = l.size }

-- One glyph more: it is 6 × size tenths of a point wide.
abbrev pub glyph_set : Numbers → Numbers
glyph_set n = with_line (one_drawn n) (record { x = n.line.x; y = n.line.y; advance = n.line.advance + 6 * n.line.size; size = n.line.size })

-- The numbers after some glyphs.
abbrev pub glyphs_set : Numbers → List ℕ → Numbers
glyphs_set n [] = n
glyphs_set n (x ∷ xs) = glyphs_set (glyph_set n) xs

-- The codes in their order.
abbrev pub codes_in : Codes → List ℕ
codes_in (One x) = x ∷ []
codes_in (Two x y) = x ∷ y ∷ []
codes_in (Three x y z) = x ∷ y ∷ z ∷ []

-- A state: what is open, the topmost first, and the machine's numbers.
pub record State : Type 0 where
  pub stack : List Open
  pub numbers : Numbers

-- A state with a thing opened.
abbrev pub opened : Open → State → State
opened x s = record { stack = x ∷ s.stack; numbers = s.numbers }

-- A state with other numbers.
abbrev pub with_numbers : State → Numbers → State
with_numbers s n = record { stack = s.stack; numbers = n }

-- A state with the topmost open thing ended; a save brings back the axes that it found.
abbrev pub closed : List Open → Numbers → State
closed [] n = record { stack = []; numbers = n }
closed (Page ∷ stack) n = record { stack = stack; numbers = n }
closed (Save at ∷ stack) n = record { stack = stack; numbers = with_axes n at }
closed (Mark owned ∷ stack) n = record { stack = stack; numbers = n }
closed (Text ∷ stack) n = record { stack = stack; numbers = n }
closed (Path ∷ stack) n = record { stack = stack; numbers = n }

-- A state with a path open, the one that is or a new one.
abbrev pub with_path : State → State
with_path s = record { stack = cond (path_in s.stack) s.stack (Path ∷ s.stack); numbers = s.numbers }

-- The state after a step.
abbrev pub did : State → Step → State
did s step.Page = opened Page (with_numbers s (page_started s.numbers))
did s step.Close = closed s.stack s.numbers
did s (step.Mark owned) = opened (Mark owned) (with_numbers s (mark_started s.numbers owned))
did s step.Save = opened (Save s.numbers.axes) s
did s (step.Origin a b) = with_numbers s (with_axes s.numbers (shifted s.numbers.axes a b))
did s (step.Turn quarters) = with_numbers s (with_axes s.numbers (turned s.numbers.axes quarters))
did s (step.Pen a b) = with_path (with_numbers s (one_drawn s.numbers))
did s (step.Line a b) = with_numbers s (one_drawn s.numbers)
did s (step.Paint operator) = closed s.stack s.numbers
did s (step.Text size) = opened Text (with_numbers s (text_started s.numbers size))
did s (step.Place a b) = with_numbers s (with_line s.numbers (placed s.numbers.line a b))
did s (step.Show codes) = with_numbers s (glyphs_set s.numbers (codes_in codes))

-- Whether there is a glyph or a point left.
abbrev pub can_draw : Numbers → Bool
can_draw n = nat_lt n.counts.drawn most_drawn

-- Whether a step keeps the limits, with so many saves open at most.
abbrev pub within_limits : ℕ → State → Step → Bool
within_limits saves s step.Page = nat_lt s.numbers.counts.pages most_pages
within_limits saves s step.Close = true
within_limits saves s (step.Mark owned) = cond owned (nat_lt s.numbers.counts.marks most_marks) true
within_limits saves s step.Save = nat_lt (saves_in s.stack) saves
within_limits saves s (step.Origin a b) = true
within_limits saves s (step.Turn quarters) = true
within_limits saves s (step.Pen a b) = nat_lt s.numbers.counts.drawn most_drawn
within_limits saves s (step.Line a b) = nat_lt s.numbers.counts.drawn most_drawn
within_limits saves s (step.Paint operator) = true
within_limits saves s (step.Text size) = true
within_limits saves s (step.Place a b) = true
within_limits saves s (step.Show codes) = nat_le (s.numbers.counts.drawn + count_of codes) most_drawn

-- Whether the start of the line of text is within its range.
abbrev pub line_inside : TextLine → Bool
line_inside l = within l.x && within l.y

-- Whether a step leaves the offset and the start of the line of text within their range.
abbrev pub inside_range : State → Step → Bool
inside_range s step.Page = true
inside_range s step.Close = true
inside_range s (step.Mark owned) = true
inside_range s step.Save = true
inside_range s (step.Origin a b) = axes_inside (shifted s.numbers.axes a b)
inside_range s (step.Turn quarters) = true
inside_range s (step.Pen a b) = true
inside_range s (step.Line a b) = true
inside_range s (step.Paint operator) = true
inside_range s (step.Text size) = true
inside_range s (step.Place a b) = line_inside (placed s.numbers.line a b)
inside_range s (step.Show codes) = true

-- The byte of a letter: G, M, L, Z.
abbrev pub byte_of : Letter → ℕ
byte_of letter.Glyph = 71
byte_of letter.Move = 77
byte_of letter.Line = 76
byte_of letter.Paint = 90

-- The point (a, b) of a path, in tenths: 10 × offset + 10 × the turned place.
abbrev pub point_at : Letter → Axes → ℤ → ℤ → Drawn
point_at kind at a b = record {
  letter = kind;
  x = pos 10 *ℤ at.x +ℤ pos 10 *ℤ rotated_x at.turn a b;
  y = pos 10 *ℤ at.y +ℤ pos 10 *ℤ rotated_y at.turn a b;
  turn = 0;
  size = 0;
  code = 0;
}

-- How far along its own axis the next glyph stands, in tenths.
abbrev pub along : TextLine → ℤ
along l = pos 10 *ℤ l.x +ℤ pos l.advance

-- The glyph of a code, in tenths: 10 × offset + the turned sum of 10 × line start and the advance.
abbrev pub glyph_at : Numbers → ℕ → Drawn
glyph_at n c = record {
  letter = letter.Glyph;
  x = pos 10 *ℤ n.axes.x +ℤ rotated_x n.axes.turn (along n.line) (pos 10 *ℤ n.line.y);
  y = pos 10 *ℤ n.axes.y +ℤ rotated_y n.axes.turn (along n.line) (pos 10 *ℤ n.line.y);
  turn = n.axes.turn;
  size = n.line.size;
  code = c;
}

-- The glyphs of codes, one after another.
abbrev pub glyphs_at : Numbers → List ℕ → List Drawn
glyphs_at n [] = []
glyphs_at n (x ∷ xs) = glyph_at n x ∷ glyphs_at (glyph_set n) xs

-- The end of a path by the operator of this number.
abbrev pub paint_of : ℕ → Drawn
paint_of k = record { letter = letter.Paint; x = pos 0; y = pos 0; turn = 0; size = 0; code = k }

-- What a step draws.
abbrev pub draws : State → Step → List Drawn
draws s step.Page = []
draws s step.Close = []
draws s (step.Mark owned) = []
draws s step.Save = []
draws s (step.Origin a b) = []
draws s (step.Turn quarters) = []
draws s (step.Pen a b) = point_at letter.Move s.numbers.axes a b ∷ []
draws s (step.Line a b) = point_at letter.Line s.numbers.axes a b ∷ []
draws s (step.Paint operator) = paint_of (operator_number operator) ∷ []
draws s (step.Text size) = []
draws s (step.Place a b) = []
draws s (step.Show codes) = glyphs_at s.numbers (codes_in codes)

-- A state of these open things and these numbers.
abbrev pub state_of : List Open → Numbers → State
state_of stack n = record { stack = stack; numbers = n }

-- Where the answer is yes, the numbers are changed so; else they are as they were.
abbrev pub IfTaken : Bool → (Numbers → Numbers) → Numbers → Numbers → Type 0
IfTaken answer change before after = after ≡ cond answer (change before) before

-- Where the answer is yes, the numbers are as the step makes them, whatever is open; else they are as they were.
abbrev pub Does : Step → Bool → Numbers → Numbers → Type 0
Does step answer before after = (stack : List Open) → IfTaken answer (λ n. (did (state_of stack n) step).numbers) before after
