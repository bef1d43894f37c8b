-- The numbers of a sink's refusals, and how they are told.
use Rattle.std.specs.Prelude.{ℕ, List, codes}
use Rattle.sink.specs.declared.refusal.Refusal.{Refusal}
use Rattle.sink.specs.declared.refusal.Refusal.TheVariants.{Full}

-- The number that a refusal is known by.
abbrev pub number_of : Refusal → ℕ
number_of Full = 5

-- The text that tells a refusal.
abbrev pub text_of : Refusal → List ℕ
text_of Full = codes "no room"
