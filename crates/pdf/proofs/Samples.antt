-- The samples are read as they say, by computation.
use Rattle.std.specs.Fmt.{digits}
use Rattle.pdf.specs.Tokens.{token}
use Rattle.pdf.specs.Values.{item, items, field, entries, value_at, value}
use Rattle.pdf.specs.Samples.{SamplesAsSaid}

pub samples_as_said : SamplesAsSaid
unfolding token item items field entries value_at value digits
samples_as_said = assumption
