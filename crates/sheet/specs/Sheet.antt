-- The sheet that obeyed words make: what they draw, and the pages that it is written on.
use Rattle.std.specs.Prelude.{ℕ, zero, suc, List, [], ◌∷◌, ◌++◌, Some, None, Option}
use Rattle.std.specs.List.{slice_get}
use Rattle.page.specs.declared.types.PaintOperator.TheVariants.{End}
use Rattle.page.specs.declared.types.Word.{Word}
use Rattle.page.specs.declared.types.Word.TheVariants as word
use Rattle.machine.specs.declared.types.Open.{Open}
use Rattle.machine.specs.declared.types.Open.TheVariants as open'
use Rattle.sheet.specs.declared.instructions.Instruction.{Instruction}
use Rattle.sheet.specs.declared.instructions.Instruction.TheVariants.{Save, Restore, Origin, Turn, BeginText, Font, EndText, Mark, Artifact, EndMark, Move, Line, Paint, Place, Show}
use Rattle.sheet.specs.Tree.{Element}
use Rattle.sheet.specs.Due.{Drawing, no_drawing, obeyed}

-- A page: its width and height, the instructions of its contents, and the element of each of its marks by identifier.
pub record Page : Type 0 where
  pub width : ℕ
  pub height : ℕ
  pub instructions : List Instruction
  pub owners : List ℕ

-- A sheet: what is drawn, and the pages in order, of which the last may be open.
pub record Sheet : Type 0 where
  pub drawing : Drawing
  pub pages : List Page

-- The sheet of no words.
abbrev pub no_sheet : Sheet
no_sheet = record { drawing = no_drawing; pages = [] }

-- The pages with the last one changed.
abbrev pub on_last : (Page → Page) → List Page → List Page
on_last f [] = []
on_last f (p ∷ []) = f p ∷ []
on_last f (p ∷ q ∷ ps) = p ∷ on_last f (q ∷ ps)

-- A page with more instructions.
abbrev pub writing : List Instruction → Page → Page
writing is p = record { width = p.width; height = p.height; instructions = p.instructions ++ is; owners = p.owners }

-- A page with one mark more, of this element.
abbrev pub owning : ℕ → Page → Page
owning e p = record { width = p.width; height = p.height; instructions = p.instructions; owners = p.owners ++ e ∷ [] }

-- What closes the topmost open thing; a page's end is no instruction.
abbrev pub closing : List Open → List Instruction
closing [] = []
closing (open'.Page ∷ stack) = []
closing (open'.Save axes ∷ stack) = Restore ∷ []
closing (open'.Mark owned ∷ stack) = EndMark ∷ []
closing (open'.Text ∷ stack) = EndText ∷ []
closing (open'.Path ∷ stack) = Paint End ∷ []

-- The mark of an element that there may be or not.
abbrev pub mark_of : Option Element → ℕ → List Instruction
mark_of None identifier = []
mark_of (Some e) identifier = Mark e.role identifier ∷ []

-- The mark of the element of this number; of 0, an artifact.
abbrev pub marking : Drawing → ℕ → List Instruction
marking d zero = Artifact ∷ []
marking d (suc e) = mark_of (slice_get d.tree.elements e) d.marks

-- The instructions that a word writes where this was drawn before it.
abbrev pub writes : Drawing → Word → List Instruction
writes d (word.Page width height) = []
writes d word.Close = closing d.machine.stack
writes d (word.Element parent role) = []
writes d (word.Mark e) = marking d e
writes d word.Save = Save ∷ []
writes d (word.Origin a b) = Origin a b ∷ []
writes d (word.Turn quarters) = Turn quarters ∷ []
writes d (word.Pen a b) = Move a b ∷ []
writes d (word.Line a b) = Line a b ∷ []
writes d (word.Paint operator) = Paint operator ∷ []
writes d (word.Text size) = BeginText ∷ Font size ∷ []
writes d (word.Place a b) = Place a b ∷ []
writes d (word.Show shown) = Show shown ∷ []

-- The pages with a mark more on the last, if it belongs to an element.
abbrev pub owned : ℕ → List Page → List Page
owned zero ps = ps
owned (suc e) ps = on_last (owning (suc e)) ps

-- What a word does to the pages beside what it writes: a page word opens one, a mark gets an owner.
abbrev pub paged : List Page → Word → List Page
paged ps (word.Page width height) = ps ++ record { width = width; height = height; instructions = []; owners = [] } ∷ []
paged ps word.Close = ps
paged ps (word.Element parent role) = ps
paged ps (word.Mark e) = owned e ps
paged ps word.Save = ps
paged ps (word.Origin a b) = ps
paged ps (word.Turn quarters) = ps
paged ps (word.Pen a b) = ps
paged ps (word.Line a b) = ps
paged ps (word.Paint operator) = ps
paged ps (word.Text size) = ps
paged ps (word.Place a b) = ps
paged ps (word.Show shown) = ps

-- The sheet after a word that is obeyed.
unfoldable pub sheet_after : Sheet → Word → Sheet
sheet_after s w = record { drawing = obeyed s.drawing w; pages = paged (on_last (writing (writes s.drawing w)) s.pages) w }

-- The sheet after several words that are obeyed.
abbrev pub sheet_after_all : Sheet → List Word → Sheet
sheet_after_all s [] = s
sheet_after_all s (w ∷ ws) = sheet_after_all (sheet_after s w) ws

-- The words that close what is open, the topmost first; a path is painted by n.
abbrev pub closers : List Open → List Word
closers [] = []
closers (open'.Page ∷ stack) = word.Close ∷ closers stack
closers (open'.Save axes ∷ stack) = word.Close ∷ closers stack
closers (open'.Mark owned ∷ stack) = word.Close ∷ closers stack
closers (open'.Text ∷ stack) = word.Close ∷ closers stack
closers (open'.Path ∷ stack) = word.Paint End ∷ closers stack

-- The sheet with all closed.
abbrev pub closed_sheet : Sheet → Sheet
closed_sheet s = sheet_after_all s (closers s.drawing.machine.stack)
