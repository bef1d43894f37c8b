-- Worked sheets: sizes, offsets and places, to be computed by hand and compared.
use Rattle.std.specs.Prelude.{◌≡◌, ℕ, ◌+◌, List, [], ◌∷◌, length, take, drop, pos, Some, None, codes}
use Rattle.machine.specs.declared.types.Letter.TheVariants.{Glyph}
use Rattle.pdf.specs.Blocks.{whole, offset_of}
use Rattle.sheet.specs.declared.items.Item.{Item}
use Rattle.sheet.specs.declared.refusals.BeginRefusal.TheVariants.{LittleRoom}
use Rattle.sheet.specs.declared.refusals.Note.{Note}
use Rattle.sheet.specs.Due.{due_reading}
use Rattle.sheet.specs.Layout.{header, blocks, finished}
use Rattle.sheet.specs.Contents.{contents_of}
use Rattle.sheet.specs.Run.{Trays, unbegun, run}
use Rattle.sheet.specs.Sheet.{Sheet, Page, no_sheet}

-- Where object n of a sheet starts in its finished file, if nothing is open.
abbrev pub start_of : ℕ → Sheet → ℕ
start_of n s = offset_of n (length header) (blocks s)

-- A sink with room for every sheet.
abbrev pub ample_room : ℕ
ample_room = 16777216

-- The sheet of a script where there is room enough.
abbrev pub sheet_of : List ℕ → Sheet
sheet_of ws = (run ample_room (length ws) ws).sheet

-- The notes of one word on an empty sheet, on a sink of this room.
abbrev pub notes_of : ℕ → ℕ → List Note
notes_of room w = (run room 1 (w ∷ [])).notes

-- A note of the word at this place.
abbrev pub note : ℕ → ℕ → Note
note place number = record { place = place; number = number }

-- The script of a sheet with one page, 595 by 842 points, that shows A1 at (72, 700) in size 12 as a paragraph.
abbrev pub label_script : List ℕ
label_script = 0x20000003 ∷ 0x0094C34A ∷ 0xA000000C ∷ 0x30000001 ∷ 0xB01202BC ∷ 0xC2413100 ∷ 0x10000000 ∷ 0x10000000 ∷ 0x10000000 ∷ []

-- The contents of its page.
abbrev pub label_contents : List ℕ
label_contents = codes "BT\n/F1 12 Tf\n/P << /MCID 0 >> BDC\n72 700 Td\n(A1) Tj\nEMC\nET\n"

-- The same label after an origin of (100, 0) and a quarter turn, in size 10, placed at (10, 0).
abbrev pub turned_script : List ℕ
turned_script = 0x20000003 ∷ 0x0094C34A ∷ 0x50190000 ∷ 0x60000001 ∷ 0xA000000A ∷ 0x30000001 ∷ 0xB0028000 ∷ 0xC2413100 ∷ []

-- A glyph on page 1 of element 1.
abbrev pub glyph : ℕ → ℕ → ℕ → ℕ → ℕ → Item
glyph x y turn size code = record { letter = Glyph; page = 1; x = pos x; y = pos y; turn = turn; size = size; code = code; element = 1 }

-- Trays that are long enough for every script.
abbrev pub long_trays : Trays
long_trays = record { notes = 4096; opens = 32; elements = 512; kids = 1536; offsets = 1024 }

-- What the contents of the first page of a sheet are.
abbrev pub first_contents : List Page → List ℕ
first_contents [] = []
first_contents (p ∷ ps) = contents_of p.instructions

-- The sheet of no words: its size, where its objects start, and where the table is.
pub record EmptySheetAsSaid : Type 0 where
  pub size : length (finished no_sheet) ≡ 563
  pub catalog_at : start_of 1 no_sheet ≡ 15
  pub page_tree_at : start_of 2 no_sheet ≡ 115
  pub font_at : start_of 3 no_sheet ≡ 167
  pub root_at : start_of 4 no_sheet ≡ 262
  pub parent_tree_at : start_of 5 no_sheet ≡ 350
  pub table_at : length header + length (whole (blocks no_sheet)) ≡ 380

-- The label sheet: its contents, where they and two objects start, and its due reading.
pub record LabelSheetAsSaid : Type 0 where
  pub no_notes : (run ample_room 9 label_script).notes ≡ []
  pub contents : first_contents (sheet_of label_script).pages ≡ label_contents
  pub contents_size : length label_contents ≡ 59
  pub contents_at : take 59 (drop 50 (finished (sheet_of label_script))) ≡ label_contents
  pub length_at : start_of 8 (sheet_of label_script) ≡ 127
  pub page_at : start_of 6 (sheet_of label_script) ≡ 145
  pub due : due_reading label_script [] ≡ glyph 720 7000 0 12 65 ∷ glyph 792 7000 0 12 49 ∷ []

-- What is refused at which room, and why.
pub record RefusalsAsSaid : Type 0 where
  pub room_654 : unbegun 0 long_trays 0 654 ≡ Some LittleRoom
  pub room_655 : unbegun 0 long_trays 0 655 ≡ None
  pub page_at_1073 : notes_of 1073 0x0094C34A ≡ note 0 16 ∷ []
  pub page_at_1074 : notes_of 1074 0x0094C34A ≡ []
  pub no_such_kind : notes_of ample_room 0xD0000000 ≡ note 0 10 ∷ []
  pub show_without_mark : notes_of ample_room 0xC2413100 ≡ note 0 12 ∷ []

-- All of them at once.
pub record WorkedSheetsAsSaid : Type 0 where
  pub empty_sheet : EmptySheetAsSaid
  pub label_sheet : LabelSheetAsSaid
  pub turned_label : due_reading turned_script [] ≡ glyph 1000 100 1 10 65 ∷ glyph 1000 160 1 10 49 ∷ []
  pub refusals : RefusalsAsSaid
