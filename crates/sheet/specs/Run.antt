-- A run of words on a sink: when a sheet is begun, which words are refused and why, and what has become of them.
use Rattle.std.specs.Prelude.{ℕ, ◌+◌, ◌*◌, Bool, true, false, cond, not, ◌&&◌, List, [], ◌∷◌, ◌++◌, length, take, Some, None, Ok, Err, Option, Result, nat_le, nat_lt}
use Rattle.page.specs.declared.types.Refusal.{Refusal}
use Rattle.page.specs.declared.types.Word.{Word}
use Rattle.page.specs.declared.types.Word.TheVariants as word
use Rattle.page.specs.Decoded.{decoded}
use Rattle.machine.specs.declared.types.Open.{Open}
use Rattle.machine.specs.declared.types.Step.{Step}
use Rattle.machine.specs.Stack.{taken}
use Rattle.machine.specs.State.{within_limits, inside_range, most_saves_written}
use Rattle.machine.specs.Steps.{step_of}
use Rattle.sheet.specs.declared.refusals.BeginRefusal.{BeginRefusal}
use Rattle.sheet.specs.declared.refusals.BeginRefusal.TheVariants.{Long, ShortTray, Begun, LittleRoom}
use Rattle.sheet.specs.declared.refusals.WordRefusal.{WordRefusal}
use Rattle.sheet.specs.declared.refusals.WordRefusal.TheVariants.{Unread, NotTaken, NoElement, Limit, Outside, NoRoom}
use Rattle.sheet.specs.declared.refusals.Note.{Note}
use Rattle.sheet.specs.Layout.{so_far}
use Rattle.sheet.specs.Refusals.{word_number}
use Rattle.sheet.specs.Sheet.{Sheet, no_sheet, sheet_after}

-- The most words of a script.
abbrev pub most_words : ℕ
most_words = 4096

-- The most elements of a sheet.
abbrev pub most_elements : ℕ
most_elements = 512

-- The least room of a sink on which a sheet is begun.
abbrev pub least_room : ℕ
least_room = 655

-- How many records the writer's trays take.
pub record Trays : Type 0 where
  pub notes : ℕ
  pub opens : ℕ
  pub elements : ℕ
  pub kids : ℕ
  pub offsets : ℕ

-- The trays take what a script of so many words may need.
abbrev pub enough : ℕ → Trays → Bool
enough told t = nat_le told t.notes && (nat_le 32 t.opens && (nat_le 512 t.elements && (nat_le 1536 t.kids && nat_le 1024 t.offsets)))

-- Why a script of so many words is not begun with these trays on a sink of so many bytes and so much room.
abbrev pub unbegun : ℕ → Trays → ℕ → ℕ → Option BeginRefusal
unbegun told t bytes room =
    cond (nat_lt most_words told) (Some Long) (cond (not (enough told t)) (Some ShortTray) (cond (nat_lt 0 bytes) (Some Begun) (cond (nat_lt room least_room) (Some LittleRoom) None)))

-- What is kept for the page that is open, and for what is open above it.
abbrev pub open_reserve : List Open → ℕ
open_reserve [] = 0
open_reserve (x ∷ stack) = 256 + 4 * length stack

-- The room that is kept for the end.
abbrev pub reserve : Sheet → ℕ
reserve s = 640 + 128 * length s.pages + 128 * length s.drawing.tree.elements + 64 * s.drawing.machine.numbers.counts.marks + open_reserve s.drawing.machine.stack

-- A step of the machine passes a test, or there is none.
abbrev pub step_passes : (Step → Bool) → Option Step → Bool
step_passes test None = true
step_passes test (Some s) = test s

-- The word is taken where the sheet is: an element word anywhere.
abbrev pub is_taken : Sheet → Word → Bool
is_taken s w = step_passes (taken s.drawing.machine.stack) (step_of w)

-- There is the element that the word names, if it names one; 0 is the root, or an artifact.
abbrev pub is_known : Sheet → Word → Bool
is_known s (word.Page width height) = true
is_known s word.Close = true
is_known s (word.Element parent role) = nat_le parent (length s.drawing.tree.elements)
is_known s (word.Mark e) = nat_le e (length s.drawing.tree.elements)
is_known s word.Save = true
is_known s (word.Origin a b) = true
is_known s (word.Turn quarters) = true
is_known s (word.Pen a b) = true
is_known s (word.Line a b) = true
is_known s (word.Paint operator) = true
is_known s (word.Text size) = true
is_known s (word.Place a b) = true
is_known s (word.Show codes) = true

-- One element more is within the limit, if the word adds one.
abbrev pub element_within : ℕ → Option Step → Bool
element_within n None = nat_lt n most_elements
element_within n (Some s) = true

-- The word passes no limit. Only an element word has no step of the machine.
abbrev pub is_within : Sheet → Word → Bool
is_within s w = step_passes (within_limits most_saves_written s.drawing.machine) (step_of w) && element_within (length s.drawing.tree.elements) (step_of w)

-- The word leaves the offset and the start of the line of text within their range.
abbrev pub is_inside : Sheet → Word → Bool
is_inside s w = step_passes (inside_range s.drawing.machine) (step_of w)

-- Bytes and reserve of a sheet have place in a sink of this room.
abbrev pub fits : ℕ → Sheet → Bool
fits cap s = nat_le (length (so_far s) + reserve s) cap

-- Why a word is refused on a sheet, begun on a sink of this room: the first reason that applies.
abbrev pub judged_word : ℕ → Sheet → Word → Option WordRefusal
judged_word cap s w =
    elim (is_taken s w) [
      | false ↦ Some NotTaken
      | true ↦
          elim (is_known s w) [
            | false ↦ Some NoElement
            | true ↦
                elim (is_within s w) [
                  | false ↦ Some Limit
                  | true ↦
                      elim (is_inside s w) [
                        | false ↦ Some Outside
                        | true ↦
                            elim (fits cap (sheet_after s w)) [ false ↦ Some NoRoom | true ↦ None ]
                      ]
                ]
          ]
    ]

-- The same of 32 bits.
abbrev pub judged : ℕ → Sheet → Result Word Refusal → Option WordRefusal
judged cap s (Err why) = Some (Unread why)
judged cap s (Ok w) = judged_word cap s w

-- A run: the sheet, how many words there were, and a note of each that was refused.
pub record Run : Type 0 where
  pub sheet : Sheet
  pub place : ℕ
  pub notes : List Note

-- No word yet.
abbrev pub no_run : Run
no_run = record { sheet = no_sheet; place = 0; notes = [] }

-- The sheet after 32 bits that are obeyed.
abbrev pub sheet_by : Sheet → Result Word Refusal → Sheet
sheet_by s (Ok w) = sheet_after s w
sheet_by s (Err why) = s

-- A word is obeyed or refused.
abbrev pub gone_by : Run → Result Word Refusal → Option WordRefusal → Run
gone_by r w None = record { sheet = sheet_by r.sheet w; place = r.place + 1; notes = r.notes }
gone_by r w (Some why) = record { sheet = r.sheet; place = r.place + 1; notes = r.notes ++ record { place = r.place; number = word_number why } ∷ [] }

-- The run after one word more.
unfoldable pub word_done : ℕ → Run → ℕ → Run
word_done cap r w = gone_by r (decoded w) (judged cap r.sheet (decoded w))

-- The run after some words more.
unfoldable pub words_done : ℕ → Run → List ℕ → Run
words_done cap r [] = r
words_done cap r (w ∷ ws) = words_done cap (word_done cap r w) ws

-- The run of a script on a sink of this room, up to the length told.
unfoldable pub run : ℕ → ℕ → List ℕ → Run
run cap told ws = words_done cap no_run (take told ws)
