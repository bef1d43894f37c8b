-- The worked sheets, computed.
use Rattle.std.specs.Fmt.{digits}
use Rattle.machine.specs.Stack.{some_open, saves_in}
use Rattle.pdf.specs.Blocks.{whole, offset_of}
use Rattle.sheet.specs.Contents.{contents_of}
use Rattle.sheet.specs.Due.{drawing, due_reading}
use Rattle.sheet.specs.Layout.{blocks, file_of, finished, so_far}
use Rattle.sheet.specs.Run.{word_done, words_done, run}
use Rattle.sheet.specs.Sheet.{sheet_after}
use Rattle.sheet.specs.Worked.{WorkedSheetsAsSaid}

pub worked_sheets : WorkedSheetsAsSaid
unfolding digits some_open saves_in whole offset_of contents_of drawing due_reading blocks file_of finished so_far word_done words_done run sheet_after
worked_sheets = assumption
