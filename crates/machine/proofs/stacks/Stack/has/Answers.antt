-- `has` answers what `any` does, and the same things are open from either end.
use Rattle.std.proofs.Common.{◌≡◌, ◌∙◌, sym, refl, of_calls}
use Rattle.std.specs.List.{list_any}
use Rattle.std.proofs.lemmas.Iterator.{YieldsList-from_slice}
use Rattle.std.proofs.lemmas.Iterator.Search.{any_from_yields_List}
use Rattle.machine.proofs.Opens.{some_reverse}
use Rattle.machine.proofs.stacks.Stack.has.Goals as goal

pub returns : goal.returns
returns g c = λ passes tells.
    let things = c.self.inside.things.now in
    let any : c.any.result ≡ list_any passes things =
    any_from_yields_List passes _ _ _ c.any.ensures.ran (YieldsList-from_slice things cc) (λ x b q k.
    (g.met.F.Fn.1.step_stays _ _ _ _ k, tells x.now b (record { shown = x; shows = refl; says = record { met = search of_calls } }))) in
    rw (← c.self.view_is) (any ∙ sym (some_reverse passes things))
