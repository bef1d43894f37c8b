-- The bytes behind the last line end before the place, and the line ends up to there.
use Rattle.std.proofs.Common.{◌≡◌, ◌+◌, ◌-◌, cond, length, take, count_by, reverse, sym, refl, ap, ◌∙◌, arith, rules, tests}
use Rattle.std.specs.List.{suffix_len}
use Rattle.std.proofs.iter.runs.Made.{chains}
use Rattle.std.proofs.lemmas.Iterator.{YieldsList-from_map, YieldsList-from_slice}
use Rattle.std.proofs.lemmas.Iterator.Adapters.{YieldsList-from_rev_slice}
use Rattle.std.proofs.lemmas.Iterator.Consumers.{YieldsList-at, fits_by_from_yields_list, count_from_yields_List}
use Rattle.std.proofs.lemmas.Iterator.Search.{YieldsList-from_take_while}
use Rattle.std.proofs.lemmas.List.{take_min}
use Rattle.std.proofs.lemmas.List.Folds.{length-prefix_len}
use Rattle.script.specs.Lines.{ends_line, inside_line, line_at, column_at}
use Rattle.script.proofs.Placed.{line_ends_up_to_last, line_ends_fit, position_is}
use Rattle.script.proofs.place.Position.of.Goals as goal

pub sum-line_ends-requires-clause-fits : goal.sum-line_ends-requires-clause-fits
sum-line_ends-requires-clause-fits c =
    let before = take c.min.result c.args.text.now in
    let lines = take (length before - c.count-in_line.result) before in
    let fit = line_ends_fit c.args.text.now (length before - c.count-in_line.result) c.min.result in
    fits_by_from_yields_list (λ b. cond (ends_line b) 1 0) lines c.map.result _
    (YieldsList-from_map _ (λ b. cond (ends_line b) 1 0) (YieldsList-at c.map.ensures.source (YieldsList-from_slice lines cc)) c.map.ensures.closure (λ x r q k. search (rules, tests)))
    (omega arith)

pub overflow_add-result : goal.overflow_add-result
overflow_add-result c =
    let before = take c.min.result c.args.text.now in
    let lines = take (length before - c.count-in_line.result) before in
    let line : c.sum-line_ends.result ≡ count_by ends_line lines = search (rules, chains) in
    let fit = line_ends_fit c.args.text.now (length before - c.count-in_line.result) c.min.result in
    omega arith

pub returns : goal.returns
returns c =
    let text = c.args.text.now in
    let before = take c.min.result text in
    let lines = take (length before - c.count-in_line.result) before in
    let line : c.sum-line_ends.result ≡ count_by ends_line lines = search (rules, chains) in
    let column : c.count-in_line.result ≡ suffix_len inside_line before =
    count_from_yields_List c.take_while.result _ c.count-in_line.ensures.ran
    (YieldsList-from_take_while _ inside_line (YieldsList-from_rev_slice before (rw (c.take_while.ensures.source, c.rev.ensures.source, c.iter.ensures.rest) refl)) c.take_while.ensures.closure c.take_while.ensures.done (λ x b q k. search (rules, tests)))
    ∙ length-prefix_len inside_line (reverse before)
    in
    let all = ap (λ k. count_by ends_line (take (length before - k) before)) column ∙ line_ends_up_to_last before in
    let e : before ≡ take c.args.at text = ap (λ n. take n text) c.min.ensures ∙ take_min c.args.at text in
    let l : line_at text c.args.at ≡ 1 + c.sum-line_ends.result = sym (ap (λ n. 1 + n) (line ∙ all ∙ ap (count_by ends_line) e)) in
    let k : column_at text c.args.at ≡ 1 + c.count-in_line.result = sym (ap (λ n. 1 + n) (column ∙ ap (suffix_len inside_line) e)) in
    position_is text c.args.at _ (omega arith) (omega arith)
