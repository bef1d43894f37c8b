-- What an answer that was allowed on a condition says of the condition.
use Rattle.std.proofs.Common.{◌≡◌, Bool, true, false, Result, Ok, Err, is_ok, refl}
use Rattle.machine.specs.declared.refusals.Refusal.{Refusal}
use Rattle.machine.specs.Refusals.{allowed}

-- it was allowed: the condition holds, and this is the value
pub given : {X : Type 0} (b : Bool) (why : Refusal) (v w : X) (answer : Result X Refusal) → answer ≡ allowed b why v → answer ≡ Ok w → (b ≡ true) × (v ≡ w)
given true why v w answer e f = (refl, cc)
given false why v w answer e f = cc

-- it was refused: the condition does not hold, and this is why
pub refused : {X : Type 0} (b : Bool) (why because : Refusal) (v : X) (answer : Result X Refusal) → answer ≡ allowed b why v → answer ≡ Err because → (b ≡ false) × (why ≡ because)
refused true why because v answer e f = cc
refused false why because v answer e f = (refl, cc)

-- whether it was allowed is the condition
pub told : {X : Type 0} (b : Bool) (why : Refusal) (v : X) → is_ok (allowed b why v) ≡ b
told true why v = refl
told false why v = refl
