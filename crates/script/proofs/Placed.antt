-- The line ends of a text stand up to its last one; and a position is its line and its column.
use Rattle.std.proofs.Common.{◌≡◌, ℕ, zero, suc, ◌+◌, ◌-◌, ◌<◌, ◌≤◌, true, false, List, length, get_or, take, count_by, subst, sym, refl, ap, ◌∙◌, ⊎_elim, arith}
use Rattle.std.specs.List.{suffix_len}
use Rattle.std.proofs.lemmas.Bool.{cases_Bool, not-true}
use Rattle.std.proofs.lemmas.List.{take_all, length-take}
use Rattle.std.proofs.lemmas.List.Sums.{count_by-le-length, count_by_more_no, suffix_len-take_yes, suffix_len-take_no}
use Rattle.script.specs.declared.place.Position.{Position}
use Rattle.script.specs.Lines.{ends_line, inside_line, line_at, column_at, position_of}

-- Of the first n bytes, those up to their last line end have all the line ends.
abbrev AllUpTo : List ℕ → ℕ → Type 0
AllUpTo text n = count_by ends_line (take (n - suffix_len inside_line (take n text)) text) ≡ count_by ends_line (take n text)

one_more : (text : List ℕ) (n : ℕ) → n < length text → AllUpTo text n → AllUpTo text (n + 1)
one_more text n h all =
    let back : n + 1 - 1 ≡ n = omega arith in
    ⊎_elim
    (λ (t : inside_line (get_or text n 0) ≡ true).
    let s = suffix_len-take_yes inside_line text (n + 1) 0 (omega arith) (omega arith) (rw back t) in
    let same : suffix_len inside_line (take (n + 1 - 1) text) ≡ suffix_len inside_line (take n text) = ap (λ k. suffix_len inside_line (take k text)) back in
    let e : n + 1 - suffix_len inside_line (take (n + 1) text) ≡ n - suffix_len inside_line (take n text) = omega arith in
    ap (λ k. count_by ends_line (take k text)) e ∙ all ∙ sym (count_by_more_no ends_line text n 0 h (not-true _ t)))
    (λ (f : inside_line (get_or text n 0) ≡ false).
    let s = suffix_len-take_no inside_line text (n + 1) 0 (omega arith) (omega arith) (rw back f) in
    let e : n + 1 - suffix_len inside_line (take (n + 1) text) ≡ n + 1 = omega arith in
    ap (λ k. count_by ends_line (take k text)) e)
    (cases_Bool (inside_line (get_or text n 0)))

all_up_to : (text : List ℕ) (n : ℕ) → n ≤ length text → AllUpTo text n
all_up_to text zero h = refl
all_up_to text (suc n) h = let e : n + 1 ≡ suc n = omega arith in subst (AllUpTo text) e (one_more text n (omega arith) (all_up_to text n (omega arith)))

pub line_ends_up_to_last : (text : List ℕ) → count_by ends_line (take (length text - suffix_len inside_line text) text) ≡ count_by ends_line text
line_ends_up_to_last text =
    subst (λ bytes. count_by ends_line (take (length text - suffix_len inside_line bytes) text) ≡ count_by ends_line bytes)
    (take_all (length text) text (omega arith))
    (all_up_to text (length text) (omega arith))

-- A part of a text has no more line ends than the text has bytes.
pub line_ends_fit : (text : List ℕ) (k n : ℕ) → count_by ends_line (take k (take n text)) ≤ length text
line_ends_fit text k n = omega (arith, count_by-le-length ends_line (take k (take n text)), length-take k (take n text), length-take n text)

pub position_is : (text : List ℕ) (at : ℕ) (place : Position) → place.line ≡ line_at text at → place.column ≡ column_at text at → place ≡ position_of text at
position_is text at place l c = λ j. record { line = l j; column = c j }
