-- What a report tells of a sink over fresh memory.
use Rattle.std.proofs.Common.{◌≡◌, ℕ, ◌-◌, List, length, Ok, Err, Result, ap, ◌∙◌, arith}
use Rattle.sink.specs.declared.refusal.Refusal.{Refusal}
use Rattle.sink.specs.Meaning.{View, Puts, grown}
use Rattle.sink.specs.Memory.{capacity, fresh_view, count_after}
use Rattle.store.specs.declared.report.Report.{Report}
use Rattle.store.specs.Stored.{Told}

-- how many bytes a fresh sink has after one text, and its room
fresh_after : (a : Result Unit Refusal) (text m : List ℕ) (o : ℕ) {w : View} → Puts a text (fresh_view m o) w → (length w.bytes ≡ count_after a text) × (w.room ≡ capacity m - count_after a text)
unfolding grown
fresh_after (Ok x) text m o p = (ap (λ (v : View). length v.bytes) p.leaves, ap (λ (v : View). v.room) p.leaves)
fresh_after (Err e) text m o p = (ap (λ (v : View). length v.bytes) p.leaves, ap (λ (v : View). v.room) p.leaves ∙ omega arith)

pub fresh_told : (r : Report) {a : Result Unit Refusal} {text m : List ℕ} (o : ℕ) {v w : View} → v ≡ fresh_view m o → Puts a text v w → Told r (length w.bytes) w.room → Told r (count_after a text) (capacity m - count_after a text)
fresh_told r {a} {text} {m} o {v} {w} e p t =
    let q : Puts a text (fresh_view m o) w = rw e at p in
    let f = fresh_after a text m o q in
    rw (f.0, f.1) at t
