-- What is open is the same from either end of the stack.
use Rattle.std.proofs.Common.{◌≡◌, ◌≤◌, Bool, ◌||◌, List, [], ◌∷◌, length, reverse, sum_by, sym, refl, ap, ◌∙◌, arith}
use Rattle.std.proofs.lemmas.List.Recursion.{is_sum_by}
use Rattle.std.proofs.lemmas.List.Sorted.{IsPermutation-reverse, list_any-IsPermutation, sum_by-IsPermutation}
use Rattle.std.specs.List.{list_any}
use Rattle.machine.specs.declared.types.Open.{Open}
use Rattle.machine.specs.declared.types.Open.TheVariants.{Page, Save, Mark, Text, Path}
use Rattle.machine.specs.Stack.{save_count, saves_in, some_open}

-- `some_open` is std's `list_any`
some_is_any : (test : Open → Bool) (xs : List Open) → some_open test xs ≡ list_any test xs
unfolding some_open
some_is_any test [] = refl
some_is_any test (x ∷ xs) = ap (λ b. test x || b) (some_is_any test xs)

-- the same things are open whichever end is looked at first
pub some_reverse : (test : Open → Bool) (xs : List Open) → some_open test (reverse xs) ≡ list_any test xs
some_reverse test xs = some_is_any test (reverse xs) ∙ sym (list_any-IsPermutation test xs (reverse xs) (IsPermutation-reverse xs))

saves_is_sum : (xs : List Open) → saves_in xs ≡ sum_by save_count xs
unfolding saves_in
saves_is_sum xs = is_sum_by saves_in save_count refl (λ x xs. refl) xs

at_most_one : (x : Open) → save_count x ≤ 1
at_most_one Page = omega arith
at_most_one (Save axes) = omega arith
at_most_one (Mark owned) = omega arith
at_most_one Text = omega arith
at_most_one Path = omega arith

few_in : (xs : List Open) → saves_in xs ≤ length xs
unfolding saves_in
few_in [] = omega arith
few_in (x ∷ xs) = omega (arith, at_most_one x, few_in xs)

-- no more saves are open than things
pub few_saves : (xs : List Open) → sum_by save_count xs ≤ length xs
few_saves xs = omega (arith, few_in xs, saves_is_sum xs)

-- as many saves are open whichever end is counted from
pub saves_reverse : (xs : List Open) → saves_in (reverse xs) ≡ sum_by save_count xs
saves_reverse xs = saves_is_sum (reverse xs) ∙ sum_by-IsPermutation save_count xs (reverse xs) (IsPermutation-reverse xs)
