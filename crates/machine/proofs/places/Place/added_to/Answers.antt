-- Both sums are given exactly where both are within their range.
use Rattle.std.proofs.Common.{rules}
use Rattle.std.proofs.lemmas.Int.{to_z-of_z}
use Rattle.machine.proofs.Allowed.{given, refused}
use Rattle.machine.proofs.places.Place.added_to.Goals as goal

pub returns-in_err-x : goal.returns-in_err-x
returns-in_err-x c = let right = refused _ _ _ _ _ c.narrow.ensures c.in_err-x.was in search (rules, to_z-of_z)

pub returns-in_err-y : goal.returns-in_err-y
returns-in_err-y c =
    let right = given _ _ _ _ _ c.narrow.ensures c.in_ok-x.was in
    let up = refused _ _ _ _ _ c.narrow-2.ensures c.in_err-y.was in
    search (rules, to_z-of_z)

pub returns : goal.returns
returns c =
    let right = given _ _ _ _ _ c.narrow.ensures c.in_ok-x.was in
    let up = given _ _ _ _ _ c.narrow-2.ensures c.in_ok-y.was in
    search (rules, to_z-of_z)
