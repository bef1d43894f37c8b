-- Memory of which the first bytes are a sink's, after a put.
use Rattle.std.proofs.Common.{◌≡◌, ℕ, ◌+◌, ◌≤◌, List, [], ◌∷◌, ◌++◌, length, take, Result, sym, refl, ap, ◌∙◌, arith, take_all}
use Rattle.std.proofs.Math.Seq.{paste}
use Rattle.std.proofs.lemmas.List.{drop-drop}
use Rattle.std.proofs.lemmas.List.Edits.{length-paste, take-paste, drop-paste}
use Rattle.sink.specs.declared.refusal.Refusal.{Refusal}
use Rattle.sink.specs.Meaning.{grown, View, Puts, Took, answer}
use Rattle.sink.specs.Memory.{capacity, count_in, memory_view, fresh_view, memory_after}
use Rattle.sink.proofs.Grown.{same_view, puts_loans, puts_whole}

-- the part stands after the bytes
pub memory_put : (m m' part : List ℕ) (len loan : ℕ) → len + length part ≤ capacity m → m' ≡ paste m len part (length part) → Took part (memory_view m len loan) (memory_view m' (len + length part) loan)
unfolding grown
memory_put m m' part len loan fits wrote =
    let n = length part in
    let same : length m' ≡ length m = rw wrote (length-paste m len part n (omega arith) (omega arith)) in
    let before : count_in m len ≡ len = omega arith in
    let after : count_in m' (len + n) ≡ len + n = omega (arith, same) in
    record {
      is =
          same_view
          (rw (after, wrote) (take-paste m len part n (omega arith) (omega arith) ∙ ap (λ xs. xs ++ take n part) (ap (λ k. take k m) (sym before)) ∙ ap (λ xs. take (count_in m len) m ++ xs) (take_all n part (omega arith))))
          (omega (arith, same))
          (rw (after, wrote) (drop-paste m len part n (omega arith) (omega arith) ∙ rw before (sym (drop-drop n len m))))
          refl;
    }

-- A sink over fresh memory m, lent under the name o, after one text: what the memory m' then holds.
pub record Written (r : Result Unit Refusal) (text m m' : List ℕ) (o : ℕ) (os : List ℕ) : Type 0 where
  pub place : (o ∷ []) ≡ os
  pub answers : r ≡ answer (length text) (capacity m)
  pub holds : m' ≡ memory_after r text m

-- said of any sink that was fresh over m, and ends with m' in its memory and nothing held back
pub landed : (r : Result Unit Refusal) (text m m' : List ℕ) (o : ℕ) {v w : View} → v ≡ fresh_view m o → Puts r text v w → m' ≡ w.bytes ++ w.beyond → Written r text m m' o w.loans
landed r text m m' o {v} {w} e p lands =
    let q : Puts r text (fresh_view m o) w = rw e at p in
    record {
      place = sym (puts_loans r q);
      answers = q.answers;
      holds = lands ∙ puts_whole r q;
    }
