-- What is left to skip from the loop's place on.
use Rattle.std.proofs.Common.{◌≡◌, false, drop}
use Rattle.script.specs.Readings.{skip_from}
use Rattle.script.proofs.scan.skip.Given as goal

abbrev pub invariant-loop-i : goal.invariant-loop-i
invariant-loop-i l = skip_from l.comment (drop l.i l.text) ≡ skip_from false l.text
