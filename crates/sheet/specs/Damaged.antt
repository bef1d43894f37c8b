-- The file of the label sheet, and what becomes of its reading where a byte or two of it are changed.
use Rattle.std.specs.Prelude.{◌≡◌, ℕ, List, [], ◌∷◌, Ok, Err, slice_set}
use Rattle.page.specs.declared.types.ElementType.TheVariants.{P}
use Rattle.sheet.specs.declared.faults.FaultKind.TheVariants.{Header, Table, Start, Syntax, Tree, Unknown, NotTaken}
use Rattle.sheet.specs.Faults.{fault}
use Rattle.sheet.specs.Layout.{finished}
use Rattle.sheet.specs.Strict.{Reading, reading_of}
use Rattle.sheet.specs.Worked.{label_script, sheet_of, glyph}

-- The finished file of the label sheet.
abbrev pub label_file : List ℕ
label_file = finished (sheet_of label_script)

-- What it reads as: a page, a paragraph under the root, and the two glyphs that are due.
abbrev pub label_reading : Reading
label_reading = record { pages = 1; elements = (P, 0) ∷ []; items = glyph 720 7000 0 12 65 ∷ glyph 792 7000 0 12 49 ∷ [] }

-- The whole file reads as due, and each damaged copy has its fault: what is changed is told by its name.
pub record LabelFileReadsAsSaid : Type 0 where
  pub whole : reading_of label_file ≡ Ok label_reading
  pub header_changed : reading_of (slice_set label_file 0 65) ≡ Err (fault Header 0 0)
  pub tail_changed : reading_of (slice_set label_file 1069 65) ≡ Err (fault Table 0 1075)
  pub offset_one_off : reading_of (slice_set label_file 829 57) ≡ Err (fault Start 1 289)
  pub name_changed : reading_of (slice_set label_file 306 99) ≡ Err (fault Syntax 1 288)
  pub length_one_greater : reading_of (slice_set (slice_set label_file 135 54) 136 48) ≡ Err (fault Syntax 7 15)
  pub key_of_another_page : reading_of (slice_set label_file 276 49) ≡ Err (fault Tree 6 145)
  pub unknown_operator : reading_of (slice_set label_file 92 120) ≡ Err (fault Unknown 7 84)
  pub restore_in_text : reading_of (slice_set (slice_set label_file 106 81) 107 32) ≡ Err (fault NotTaken 7 106)
