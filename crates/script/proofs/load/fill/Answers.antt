-- A word more, no word left, and no room left.
use Rattle.std.proofs.Common.{◌≡◌, ◌∷◌, ◌++◌, take, drop, Ok, None, sym, ap, ◌∙◌, arith, rules}
use Rattle.std.proofs.lemmas.List.{set-get_or}
use Rattle.script.specs.Readings.{Reading, reading_of}
use Rattle.script.specs.Answers.{left, overlaid}
use Rattle.script.proofs.Taken.{word_first, no_word_left, overlaid_more, overlaid_none, overlaid_full}
use Rattle.script.proofs.load.fill.Goals as goal

pub returns-in_default : goal.returns-in_default
returns-in_default c =
    let was = c.loop-slot.reader in
    let end : c.next.result ≡ Ok None = search rules in
    let none = no_word_left was.text.now (left was) c.next.result c.next.ensures.item (λ w e. absurd (cc)) in
    set-get_or c.loop-slot.words c.loop-slot.slot-index 0 ∙ overlaid_none _ c.loop-slot.words c.loop-slot.slot-index none ∙ c.loop-slot.invariant

pub returns-in_default-2 : goal.returns-in_default-2
returns-in_default-2 c =
    let was = c.loop-slot.reader in
    let none = no_word_left was.text.now (left was) c.next.result c.next.ensures.item (λ w e. absurd (cc)) in
    set-get_or c.loop-slot.words c.loop-slot.slot-index 0 ∙ overlaid_none _ c.loop-slot.words c.loop-slot.slot-index none ∙ c.loop-slot.invariant

pub loop-slot-preserved : goal.loop-slot-preserved
loop-slot-preserved c =
    let was = c.loop-slot.reader in
    let ms = c.loop-slot.words in
    let i = c.loop-slot.slot-index in
    let w = c.in-Ok-Some.word in
    let ws = (reading_of (left c.next.new.self)).words in
    let e : (reading_of (left was)).words ≡ w ∷ ws =
    ap (λ (r : Reading). r.words) (word_first was.text.now (left was) w (rw c.in-Ok-Some.field-0-is at c.in-Ok-Some.ensures.item))
    ∙ ap (λ rest. w ∷ (reading_of rest).words) (sym c.next.ensures.left) in
    overlaid_more w ws ms i (omega arith)
    ∙ ap (λ vs. take i ms ++ overlaid vs (drop i ms)) (sym e) ∙ c.loop-slot.invariant

pub returns : goal.returns
returns c =
    overlaid_full (reading_of (left c.loop-slot.reader)).words c.loop-slot.words c.loop-slot.slot-index (omega arith)
    ∙ c.loop-slot.invariant
