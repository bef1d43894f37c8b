use Rattle.std.proofs.Common.{◌≡◌, ◌≤◌, length, refl, ap, arith, rules}
use Rattle.sink.specs.Meaning.{View}
use Rattle.sink.proofs.Grown.{settled_memory}
use Rattle.gather.proofs.Layers.{layered}
use Rattle.store.proofs.store_piled.Goals as goal

pub returns : goal.returns
returns g c =
    let layer = c.store_gathered.new.sink in
    let below = layer.below.now in
    let all = layered layer.waiting.items c.new-lower.ensures.same c.store_gathered.ensures.puts refl (omega (arith, c.store_gathered.ensures.none_held)) in
    let lender = all.lender in
    let puts = all.puts in
    let none : g.S.Sink.held below ≡ 0 = omega (arith, c.store_gathered.ensures.none_held) in
    let lands = settled_memory (g.S.Sink.lawful below) none in
    let told = c.store_gathered.ensures.told in
    let bytes : c.store_gathered.result.bytes ≡ length (g.S.Sink.view below).bytes = omega (arith, ap (λ (w : View). length w.bytes) all.whole, told.bytes) in
    let room : c.store_gathered.result.room ≡ (g.S.Sink.view below).room = omega (arith, ap (λ (w : View). w.room) all.whole, told.room) in
    let waited : c.store_gathered.result.waited ≤ length (g.S.Sink.view below).bytes = omega (arith, ap (λ (w : View). length w.bytes) all.whole, told.waited) in
    record {
      puts = search rules;
      none_held = search rules;
      lands = search rules;
      told = record { bytes = search rules; room = search rules; waits = told.waits; waited = search rules };
    }
