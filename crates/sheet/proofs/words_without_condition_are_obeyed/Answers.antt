use Rattle.sheet.proofs.Conditions.{obeyed_without}
use Rattle.sheet.proofs.words_without_condition_are_obeyed.Goals as goal

pub returns : goal.returns
returns c = obeyed_without
