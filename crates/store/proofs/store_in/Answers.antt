use Rattle.std.proofs.Common.{get_or, ap, rules}
use Rattle.sink.proofs.MemoryPuts.{landed}
use Rattle.store.proofs.Tells.{fresh_told}
use Rattle.store.proofs.store_in.Goals as goal

pub returns : goal.returns
returns g c =
    let w = landed _ _ _ _ _ c.new-sink.ensures c.store_piled.ensures.puts c.store_piled.ensures.lands in
    let place = ap (λ xs. get_or xs 0 0) w.place in
    let holds = w.holds in
    record {
      answers = w.answers;
      told = fresh_told c.store_piled.result _ c.new-sink.ensures c.store_piled.ensures.puts c.store_piled.ensures.told;
      lands = search rules;
    }
