-- A layer over a sink that was lent, from its start to its end.
use Rattle.std.proofs.Common.{◌≡◌, ℕ, min, List, length, take, Result, sym, ◌∙◌}
use Rattle.sink.specs.declared.refusal.Refusal.{Refusal}
use Rattle.sink.specs.Meaning.{View, Puts, grown, lent}
use Rattle.sink.proofs.Grown.{grown_none, same_lender, puts_unlent}

-- once nothing waits, the layer is the sink below
nothing_waits : (v : View) (items : List ℕ) → min (length items) v.room ≡ 0 → grown v (take (min (length items) v.room) items) ≡ v
nothing_waits v items none = rw none (grown_none v)

-- What was put through the layer, which ends as U, is put into the sink below; that is the one that was lent,
-- and all of the layer.
pub record Layered (r : Result Unit Refusal) (text : List ℕ) (n m : ℕ) (v w U : View) : Type 0 where
  pub lender : n ≡ m
  pub puts : Puts r text v w
  pub whole : U ≡ lent m w

-- the layer began as V, over v lent as n; it ends as U, over w lent as m, and of the items that it keeps none waits
pub layered : {r : Result Unit Refusal} {text : List ℕ} {n m : ℕ} {v w V U : View} (items : List ℕ) → V ≡ lent n v → Puts r text V U → grown (lent m w) (take (min (length items) w.room) items) ≡ U → min (length items) w.room ≡ 0 → Layered r text n m v w U
layered {r} {text} {n} {m} {v} {w} {V} {U} items start p end none =
    let whole : U ≡ lent m w = sym end ∙ nothing_waits (lent m w) items none in
    let q : Puts r text (lent n v) (lent m w) = rw (← start, ← whole) p in
    record { lender = same_lender n m r text v w q; puts = puts_unlent n m r text v w q; whole = whole }
