-- A word more, a fault, and the end.
use Rattle.std.proofs.Common.{◌≡◌, length, None, Ok, sym, ap, ◌∙◌, arith}
use Rattle.std.proofs.lemmas.Result.{err_from_is_err_and}
use Rattle.script.specs.Readings.{Reading, reading_of, before}
use Rattle.script.specs.Answers.{left, count_or}
use Rattle.script.proofs.Taken.{word_first, bad_counts, end_reads_none, some_there, none_there}
use Rattle.script.proofs.load.count_words.Goals as goal

pub loop-count-preserved : goal.loop-count-preserved
loop-count-preserved c =
    let was = c.loop-count.reader in
    let now = c.loop-count.invariant in
    let told = c.in_ok-next.ensures in
    let s = some_there c.in_ok-next.field-0 c.if-is_some.ensures in
    let e : reading_of (left was) ≡ before s.0 (reading_of (left c.next.new.self)) =
    word_first was.text.now (left was) s.0 (rw s.1 at told.item) ∙ ap (λ rest. before s.0 (reading_of rest)) (sym told.left) in
    let n = ap (λ (r : Reading). length r.words) e in
    let shorter = told.shorter s.0 (ap Ok s.1) in
    record {
      text = told.text ∙ now.text;
      words = omega (arith, now.words);
      halt = sym (ap (λ (r : Reading). r.halt) e) ∙ now.halt;
      room = omega (arith, now.room);
    }

pub returns-in_err-next : goal.returns-in_err-next
returns-in_err-next c =
    let was = c.loop-count.reader in
    let text = c.args.text.now in
    let now = c.loop-count.invariant in
    let n = length (reading_of text).words in
    let p = err_from_is_err_and c.from_residual.result c.from_residual.ensures.1 in
    rw (p.1, p.2)
    (bad_counts was.text.now (left was) _ n c.in_err-next.ensures.item
    ∙ ap (λ t. count_or t n (reading_of (left was)).halt) now.text
    ∙ ap (count_or text n) now.halt)

pub returns : goal.returns
returns c =
    let was = c.loop-count.reader in
    let text = c.args.text.now in
    let now = c.loop-count.invariant in
    let end = none_there c.in_ok-next.field-0 c.if-is_some.ensures in
    let e = end_reads_none was.text.now (left was) (rw end at c.in_ok-next.ensures.item) in
    let none = ap (λ (r : Reading). length r.words) e in
    let n : c.loop-count.count ≡ length (reading_of text).words = omega (arith, now.words) in
    ap (λ k. count_or text k None) n
    ∙ ap (count_or text (length (reading_of text).words)) (sym (ap (λ (r : Reading). r.halt) e) ∙ now.halt)
