-- The eight digits, and the law of reading them back.
use Rattle.std.proofs.Common.{◌<◌, ◌/◌, ◌%◌, ◌^◌, arith, rules, tests}
use Rattle.script.specs.Digits.{hex_digit}
use Rattle.script.proofs.Mapped.{serves_all, array_mapped}
use Rattle.script.proofs.digit.hex.Goals as goal

pub map-requires : goal.map-requires
map-requires c =
    (omega arith, (omega arith, (omega arith, serves_all (λ s. s < 32) (λ x q h. let k = h.1 in search (rules, tests)) (λ x small. search (rules, tests)) (search rules))))

pub returns-clause-digits : goal.returns-clause-digits
returns-clause-digits c =
    array_mapped _ _ (λ x. hex_digit (c.args.word / 2 ^ x % 16)) (λ x y q k. search (rules, tests)) _ _ 8 c.map.ensures.items
