-- The meaning of a gathering layer: a sink below, and some last bytes that wait.
use Rattle.std.proofs.Common.{arith, sym, ap, ◌∙◌, length-append, length-take}
use Rattle.std.specs.Prelude.{◌≡◌, ℕ, ◌+◌, ◌-◌, ◌≤◌, min, true, List, ◌++◌, length, take, drop, is_ok, Result}
use Rattle.std.proofs.lemmas.List.{drop-drop, take-append-le}
use Rattle.sink.specs.declared.refusal.Refusal.{Refusal}
use Rattle.sink.specs.Meaning.{View, Lawful, grown}

-- The most bytes that a layer holds back.
abbrev pub most_waiting : ℕ
most_waiting = 64

-- A part of n bytes that is taken, and that the layer may hold back beside the w bytes that wait, waits too:
-- the sink below is as it was.
pub record WaitsIfShort (r : Result Unit Refusal) (n w w' : ℕ) (below below' : View) : Type 0 where
  pub waits : is_ok r ≡ true → w + n ≤ most_waiting → w' ≡ w + n
  pub below_stays : is_ok r ≡ true → w + n ≤ most_waiting → below' ≡ below

pub gathered_lawful : {v : View} {held : ℕ} {memory : List ℕ} (waiting : List ℕ) → length waiting ≤ v.room → Lawful v held memory → Lawful (grown v waiting) (held + length waiting) memory
unfolding grown
gathered_lawful {v} {held} {memory} waiting fits l =
    let all = length-append v.bytes waiting in
    let few = l.few_held in
    let front : length (v.bytes ++ waiting) - (held + length waiting) ≡ length v.bytes - held = omega arith in
    record {
      bounded = omega (arith, l.bounded);
      few_held = omega arith;
      stored = rw front (l.stored ∙ sym (take-append-le (length v.bytes - held) v.bytes waiting (omega arith)));
      untouched = rw all (sym (drop-drop (length waiting) (length v.bytes) memory) ∙ ap (drop (length waiting)) l.untouched);
    }

-- Likewise where the first bytes wait, as far as there is room below.
pub layer_lawful : {v : View} {held : ℕ} {memory : List ℕ} (items : List ℕ) → Lawful v held memory → Lawful (grown v (take (min (length items) v.room) items)) (held + min (length items) v.room) memory
layer_lawful {v} {held} {memory} items l =
    let n = min (length items) v.room in
    let few : length (take n items) ≡ n = length-take n items ∙ omega arith in
    rw few at (gathered_lawful (take n items) (omega arith) l)
