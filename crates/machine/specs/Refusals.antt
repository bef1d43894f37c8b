-- What is refused, and what a refusal says.
use Rattle.std.specs.Prelude.{ℕ, Bool, cond, List, Result, Ok, Err, codes}
use Rattle.machine.specs.declared.refusals.Refusal.{Refusal}
use Rattle.machine.specs.declared.refusals.Refusal.TheVariants.{Limit, Outside}

-- A value, allowed where a test holds; else why it is refused.
abbrev pub allowed : {X : Type 0} → Bool → Refusal → X → Result X Refusal
allowed holds why x = cond holds (Ok x) (Err why)

-- The number of a refusal.
abbrev pub number_of : Refusal → ℕ
number_of Limit = 14
number_of Outside = 15

-- What a refusal says.
abbrev pub text_of_refusal : Refusal → List ℕ
text_of_refusal Limit = codes "past a limit"
text_of_refusal Outside = codes "outside its range"
