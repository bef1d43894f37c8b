-- `find` answers the first record with the key. The way through the records is searched for among those that `in_order` knows:
-- the slice's own, and that turned twice. Any other is refused, as one that turns it once.
use Rattle.std.proofs.Common.{◌≡◌, find, ◌∙◌, rules, tests}
use Rattle.tray.specs.Finds.{with_key}
use Rattle.tray.specs.Trays.{records}
use Rattle.tray.proofs.Found.{first_with_key, found_on_run, in_order}
use Rattle.tray.proofs.Tray.find.Goals as goal

pub returns : goal.returns
returns g c =
    let run = c.find.ensures.runs in
    let found = found_on_run (with_key g.T.Keyed.key c.args.key) run.0 run.1 _ _ c.find.result c.find.ensures.ran c.as_slice.result.now (search in_order) (λ x b q k. search (rules, tests)) in
    let value : c.copied.result ≡ find (with_key g.T.Keyed.key c.args.key) (records c.args.self.now) = c.copied.ensures ∙ rw c.as_slice.ensures at found in
    record { value = value; first = first_with_key g.T.Keyed.key c.args.key _ _ value }
