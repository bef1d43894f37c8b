-- What a tray holds: the front of its memory.
use Rattle.std.specs.Borrow.{GName}
use Rattle.std.specs.Prelude.{◌≡◌, ℕ, ◌-◌, cond, List, [], ◌∷◌, ◌++◌, length, take, drop, Some, None, Ok, Err, Option, Result, nat_lt}
use Rattle.std.specs.List.{slice_get}
use Rattle.tray.specs.declared.Refusal.{Refusal}
use Rattle.tray.specs.declared.Refusal.TheVariants.{Full}
use Rattle.tray.specs.declared.Tray.{Tray}

-- all of the memory that the tray was lent
abbrev pub lent : {T : Type 0} → Tray T → List T
lent t = t.memory.now

-- whose memory that is: what is lent under this ghost name is the lender's again when the loan ends
abbrev pub lender : {T : Type 0} → Tray T → GName
lender t = t.memory.ghost_name

-- the list: the first records of the memory, as many as are counted
abbrev pub records : {T : Type 0} → Tray T → List T
records t = take t.count (lent t)

-- the memory after the list
abbrev pub beyond : {T : Type 0} → Tray T → List T
beyond t = drop t.count (lent t)

-- how many records more there is memory for
abbrev pub room : {T : Type 0} → Tray T → ℕ
room t = length (beyond t)

-- the answer to one record more, where there is memory for so many
abbrev pub answer : ℕ → Result Unit Refusal
answer more = cond (nat_lt 0 more) (Ok tt) (Err Full)

-- the last record of a list, if there is one
abbrev pub last_of : {T : Type 0} → List T → Option T
last_of xs = slice_get xs (length xs - 1)

-- all records of a list but the last
abbrev pub front_of : {T : Type 0} → List T → List T
front_of xs = take (length xs - 1) xs

-- what was put at the end is taken off again, and the list is as it was before; from no list nothing is taken
pub record TakesLast {T : Type 0} (r : Option T) (before later : List T) : Type 0 where
  pub put : (xs : List T) (x : T) → before ≡ xs ++ x ∷ [] → (r ≡ Some x) × (later ≡ xs)
  pub none : before ≡ [] → (r ≡ None) × (later ≡ [])
