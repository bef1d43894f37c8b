-- What is open, and which step is taken where.
use Rattle.std.specs.Borrow.{Bor}
use Rattle.std.specs.Fn.{FnReturnsAt, Shared}
use Rattle.std.specs.Prelude.{◌≡◌, ℕ, ◌+◌, Bool, true, false, not, ◌&&◌, ◌||◌, List, [], ◌∷◌}
use Rattle.machine.specs.declared.types.Open.{Open}
use Rattle.machine.specs.declared.types.Open.TheVariants.{Page, Save, Mark, Text, Path}
use Rattle.machine.specs.declared.types.Step.{Step}
use Rattle.machine.specs.declared.types.Step.TheVariants as step

-- Whether a thing is a page.
abbrev pub is_page : Open → Bool
is_page Page = true
is_page (Save axes) = false
is_page (Mark owned) = false
is_page Text = false
is_page Path = false

-- Whether a thing is a mark.
abbrev pub is_mark : Open → Bool
is_mark Page = false
is_mark (Save axes) = false
is_mark (Mark owned) = true
is_mark Text = false
is_mark Path = false

-- Whether a thing is text.
abbrev pub is_text : Open → Bool
is_text Page = false
is_text (Save axes) = false
is_text (Mark owned) = false
is_text Text = true
is_text Path = false

-- Whether a thing is a path.
abbrev pub is_path : Open → Bool
is_path Page = false
is_path (Save axes) = false
is_path (Mark owned) = false
is_path Text = false
is_path Path = true

-- Whether a thing is a save, counted: 1 if it is, else 0.
abbrev pub save_count : Open → ℕ
save_count Page = 0
save_count (Save axes) = 1
save_count (Mark owned) = 0
save_count Text = 0
save_count Path = 0

-- What a function answers of each thing is whether the thing passes a test.
abbrev pub Tells : {F : Type 0} → Shared F (Bor Open × Unit {0}) Bool → F → (Open → Bool) → Type 0
Tells calls function test = (thing : Open) (answer : Bool) → FnReturnsAt calls function thing answer → answer ≡ test thing

-- Whether one of the things that are open passes a test.
unfoldable pub some_open : (Open → Bool) → List Open → Bool
some_open test [] = false
some_open test (x ∷ stack) = test x || some_open test stack

-- How many saves are open.
unfoldable pub saves_in : List Open → ℕ
saves_in [] = 0
saves_in (x ∷ stack) = save_count x + saves_in stack

-- Whether nothing is open.
abbrev pub nothing_in : List Open → Bool
nothing_in [] = true
nothing_in (x ∷ stack) = false

-- Whether a page is open.
abbrev pub page_in : List Open → Bool
page_in stack = some_open is_page stack

-- Whether a mark is open.
abbrev pub mark_in : List Open → Bool
mark_in stack = some_open is_mark stack

-- Whether text is open.
abbrev pub text_in : List Open → Bool
text_in stack = some_open is_text stack

-- Whether a path is open.
abbrev pub path_in : List Open → Bool
path_in stack = some_open is_path stack

-- Whether a page is open, and neither text nor a path.
abbrev pub level_in : List Open → Bool
level_in stack = page_in stack && (not (text_in stack) && not (path_in stack))

-- Whether a step is taken where these things are open, the topmost first.
abbrev pub taken : List Open → Step → Bool
taken stack step.Page = nothing_in stack
taken stack step.Close = page_in stack && not (path_in stack)
taken stack (step.Mark owned) = page_in stack && (not (path_in stack) && not (mark_in stack))
taken stack step.Save = level_in stack
taken stack (step.Origin a b) = level_in stack
taken stack (step.Turn quarters) = level_in stack
taken stack (step.Pen a b) = mark_in stack && (level_in stack || path_in stack)
taken stack (step.Line a b) = path_in stack
taken stack (step.Paint operator) = path_in stack
taken stack (step.Text size) = level_in stack
taken stack (step.Place a b) = text_in stack
taken stack (step.Show codes) = text_in stack && mark_in stack
