-- The longest run of one kind, after bytes of that kind.
use Rattle.std.proofs.Common.{◌≡◌, ℕ, ◌≤◌, Bool, true, List, [], ◌∷◌, ◌++◌, length, refl, arith}
use Rattle.std.proofs.lemmas.Bool.Decides.{nat_tests}
use Rattle.pdf.specs.Bytes.{regular, digit, name_byte, each, front, past, ends}
use Rattle.pdf.specs.Laws.{RunsAreLongest}

-- A run ends where bytes begin that end it.
pub front_is : (p : ℕ → Bool) (xs rest : List ℕ) → each p xs ≡ true → ends p rest ≡ true → front p (xs ++ rest) ≡ xs
front_is p [] [] h s = refl
front_is p [] (c ∷ cs) h s = grind arith
front_is p (x ∷ xs) rest h s = grind (arith, front_is p xs rest)

pub past_is : (p : ℕ → Bool) (xs rest : List ℕ) → each p xs ≡ true → ends p rest ≡ true → past p (xs ++ rest) ≡ rest
past_is p [] [] h s = refl
past_is p [] (c ∷ cs) h s = grind arith
past_is p (x ∷ xs) rest h s = grind (arith, past_is p xs rest)

-- Bytes of a narrower kind are of the wider kind.
pub each_wider : (p q : ℕ → Bool) → ((c : ℕ) → p c ≡ true → q c ≡ true) → (xs : List ℕ) → each p xs ≡ true → each q xs ≡ true
each_wider p q f [] h = refl
each_wider p q f (x ∷ xs) h = grind (arith, f x, each_wider p q f xs)

pub digit_regular : (c : ℕ) → digit c ≡ true → regular c ≡ true
digit_regular c h = grind (arith, nat_tests)

pub name_regular : (c : ℕ) → name_byte c ≡ true → regular c ≡ true
name_regular c h = grind arith

-- What follows a run is no longer than the whole.
pub past_le : (p : ℕ → Bool) (bs : List ℕ) → length (past p bs) ≤ length bs
past_le p [] = omega arith
past_le p (c ∷ cs) = grind (arith, past_le p cs)

pub front_each : (p : ℕ → Bool) (bs : List ℕ) → each p (front p bs) ≡ true
front_each p [] = refl
front_each p (c ∷ cs) = grind (arith, front_each p cs)

past_ends : (p : ℕ → Bool) (bs : List ℕ) → ends p (past p bs) ≡ true
past_ends p [] = refl
past_ends p (c ∷ cs) = grind (arith, past_ends p cs)

run_whole : (p : ℕ → Bool) (bs : List ℕ) → front p bs ++ past p bs ≡ bs
run_whole p [] = refl
run_whole p (c ∷ cs) = grind (arith, run_whole p cs)

pub runs_are_longest : RunsAreLongest
runs_are_longest = record { whole_list = run_whole; passing = front_each; ended = past_ends }
