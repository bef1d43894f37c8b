-- The meaning of memory of which the first bytes are a sink's.
use Rattle.std.proofs.Common.{arith, sym, ◌∙◌, length-take, take_all}
use Rattle.std.specs.Prelude.{◌≡◌, ℕ, ◌-◌, min, List, [], ◌∷◌, ◌++◌, length, take, drop, is_ok, Result, if◌then◌else◌}
use Rattle.sink.specs.declared.refusal.Refusal.{Refusal}
use Rattle.sink.specs.Meaning.{View, Lawful, most_bytes}

-- How many bytes this memory can have as a sink's.
abbrev pub capacity : List ℕ → ℕ
capacity memory = min (length memory) most_bytes

-- How many it has, where a count is kept.
abbrev pub count_in : List ℕ → ℕ → ℕ
count_in memory len = min len (capacity memory)

-- The memory with its first len bytes, lent under a ghost name.
abbrev pub memory_view : List ℕ → ℕ → ℕ → View
memory_view memory len loan = record {
  bytes = take (count_in memory len) memory;
  room = capacity memory - count_in memory len;
  beyond = drop (count_in memory len) memory;
  loans = loan ∷ [];
}

-- Memory with no bytes yet.
abbrev pub fresh_view : List ℕ → ℕ → View
fresh_view memory loan = record { bytes = []; room = capacity memory; beyond = memory; loans = loan ∷ [] }

-- How many bytes a fresh sink has after one text, and what its memory then holds.
abbrev pub count_after : Result Unit Refusal → List ℕ → ℕ
count_after r text = if is_ok r then length text else 0

abbrev pub memory_after : Result Unit Refusal → List ℕ → List ℕ → List ℕ
memory_after r text memory = if is_ok r then text ++ drop (length text) memory else memory

pub memory_lawful : (memory : List ℕ) (len loan : ℕ) → Lawful (memory_view memory len loan) 0 memory
memory_lawful memory len loan =
    let n = count_in memory len in
    let l : length (take n memory) ≡ n = length-take n memory ∙ omega arith in
    let z : length (take n memory) - 0 ≡ n = omega arith in
    record {
      bounded = omega arith;
      few_held = omega arith;
      stored = rw z (sym (take_all n (take n memory) (omega arith)));
      untouched = rw l;
    }
