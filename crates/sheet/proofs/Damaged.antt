-- The label sheet's file and its damaged copies, computed.
use Rattle.std.specs.Fmt.{digits}
use Rattle.machine.specs.Stack.{some_open, saves_in}
use Rattle.pdf.specs.Blocks.{whole, offset_of}
use Rattle.pdf.specs.Tokens.{token}
use Rattle.pdf.specs.Values.{item, items, field, entries, value_at, value}
use Rattle.sheet.specs.Contents.{contents_of}
use Rattle.sheet.specs.Instructions.{spelled_in, instruction_in}
use Rattle.sheet.specs.Layout.{blocks, file_of, finished, so_far}
use Rattle.sheet.specs.Objects.{value_in, object_in}
use Rattle.sheet.specs.Run.{word_done, words_done, run}
use Rattle.sheet.specs.Sheet.{sheet_after}
use Rattle.sheet.specs.Running.{ran_through, page_run}
use Rattle.sheet.specs.Strict.{reading_of}
use Rattle.sheet.specs.Structure.{elements_of}
use Rattle.sheet.specs.Table.{after_start, index_of}
use Rattle.sheet.specs.Damaged.{LabelFileReadsAsSaid}

pub label_file_reads : LabelFileReadsAsSaid
unfolding digits some_open saves_in whole offset_of token item items field entries value_at value contents_of spelled_in instruction_in blocks file_of finished so_far value_in object_in word_done words_done run sheet_after elements_of ran_through page_run reading_of after_start index_of
label_file_reads = assumption
