use Rattle.std.proofs.Common.{◌≡◌, ◌≤◌, length, ap, ◌∙◌, arith, rules}
use Rattle.sink.specs.Meaning.{View, lent_lawful}
use Rattle.sink.proofs.Grown.{settled_memory}
use Rattle.gather.specs.Gathers.{layer_lawful}
use Rattle.gather.proofs.Layers.{layered}
use Rattle.store.proofs.store_gathered.Goals as goal

pub returns : goal.returns
returns g c =
    let before = c.store-answer.new.sink in
    let layer = c.settle.new.self in
    let below = layer.below.now in
    let all = layered layer.waiting.items c.new-layer.ensures.same c.store-answer.ensures.puts c.settle.ensures.same (omega (arith, c.settle.ensures.none_held)) in
    let lender = all.lender in
    let puts = all.puts in
    let none : g.S.Sink.held below ≡ 0 = omega (arith, c.settle.ensures.none_held) in
    let lands = settled_memory (g.S.Sink.lawful below) none in
    let whole = c.settle.ensures.same ∙ all.whole in
    let bytes : c.len.result ≡ length (g.S.Sink.view below).bytes = omega (arith, c.len.ensures, ap (λ (w : View). length w.bytes) whole) in
    let room : c.room.result ≡ (g.S.Sink.view below).room = omega (arith, c.room.ensures, ap (λ (w : View). w.room) whole) in
    let few = (layer_lawful before.waiting.items (lent_lawful before.below.ghost_name (g.S.Sink.lawful before.below.now))).few_held in
    let same = ap (λ (w : View). length w.bytes) c.settle.ensures.same in
    let waited : c.held-waited.result ≤ length (g.S.Sink.view below).bytes = omega (arith, c.held-waited.ensures, c.len.ensures) in
    record {
      puts = search rules;
      none_held = search rules;
      lands = search rules;
      told = record { bytes = search rules; room = search rules; waits = omega (arith, c.held.ensures, c.settle.ensures.none_held); waited = search rules };
    }
