-- `saves` adds one for each save, and as many saves are open from either end.
use Rattle.std.proofs.Common.{◌≡◌, ◌∙◌, sym, sum_by, arith, rules, tests}
use Rattle.std.proofs.lemmas.Iterator.{YieldsList-from_slice, YieldsList-from_map}
use Rattle.std.proofs.lemmas.Iterator.Consumers.{sum_by_from_yields_List, fits_by_from_yields_list}
use Rattle.machine.specs.Stack.{save_count}
use Rattle.machine.proofs.Opens.{saves_reverse, few_saves}
use Rattle.machine.proofs.stacks.Stack.saves.Goals as goal

pub sum-requires-clause-fits : goal.sum-requires-clause-fits
sum-requires-clause-fits c =
    let things = c.self.inside.things.now in
    let few = few_saves things in
    fits_by_from_yields_list save_count things c.map.result _ (YieldsList-from_map _ save_count (YieldsList-from_slice things cc) c.map.ensures.closure (λ x r q k. search (rules, tests))) (omega arith)

pub returns : goal.returns
returns c =
    let things = c.self.inside.things.now in
    let count : c.sum.result ≡ sum_by save_count things =
    sum_by_from_yields_List save_count things c.map.result c.sum.result c.sum.ensures.ran (YieldsList-from_map _ save_count (YieldsList-from_slice things cc) c.map.ensures.closure (λ x r q k. search (rules, tests))) in
    rw (← c.self.view_is) (count ∙ sym (saves_reverse things))
