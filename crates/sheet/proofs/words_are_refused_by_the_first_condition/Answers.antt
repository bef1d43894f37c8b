use Rattle.sheet.proofs.Conditions.{refused_by_the_first}
use Rattle.sheet.proofs.words_are_refused_by_the_first_condition.Goals as goal

pub returns : goal.returns
returns c = refused_by_the_first
