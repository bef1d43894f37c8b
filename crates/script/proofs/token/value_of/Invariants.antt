-- What is left of the digits gives the value, and so many digits give no more than this.
use Rattle.std.proofs.Common.{◌≡◌, ◌-◌, ◌^◌, ◌<◌, ◌≤◌, drop}
use Rattle.script.specs.Tokens.{value_after}
use Rattle.script.proofs.token.value_of.Given as goal

abbrev pub invariant-loop-i : goal.invariant-loop-i
invariant-loop-i l =
    record {
      room : l.i ≤ 8;
      small : l.value < 16 ^ l.i;
      rest : value_after (8 - l.i) l.value (drop l.i l.digits) ≡ value_after 8 0 l.digits;
    }
