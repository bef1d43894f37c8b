-- What it is to find the first record of a list.
use Rattle.std.specs.Prelude.{◌≡◌, ℕ, ◌<◌, Bool, List, length, Some, None, Option, ◌==◌}
use Rattle.std.specs.List.{slice_get}

-- the test whether a record has the key k
abbrev pub with_key : {T : Type 0} → (T → ℕ) → ℕ → T → Bool
with_key key k x = key x == k

-- of the first n records of the list none is sought
abbrev pub NoneBefore : {T : Type 0} → (T → Type 0) → List T → ℕ → Type 0
NoneBefore {T} Sought xs n = (i : ℕ) (y : T) → i < n → slice_get xs i ≡ Some y → ¬ Sought y

-- x is sought, stands at some place of the list, and none before that place is sought
pub record Earliest {T : Type 0} (Sought : T → Type 0) (xs : List T) (x : T) : Type 0 where
  pub sought : Sought x
  pub place : ℕ
  pub stands : slice_get xs place ≡ Some x
  pub before : NoneBefore Sought xs place

-- the answer is the earliest record that is sought; it is none only where none of the list is sought
pub record FirstWith {T : Type 0} (Sought : T → Type 0) (xs : List T) (r : Option T) : Type 0 where
  pub found : (x : T) → r ≡ Some x → Earliest Sought xs x
  pub missing : r ≡ None → NoneBefore Sought xs (length xs)
