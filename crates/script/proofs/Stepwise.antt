-- A reading goes step by step: each word leaves less to read.
use Rattle.std.proofs.Common.{◌≡◌, ℕ, zero, suc, ◌<◌, ◌≤◌, false, List, [], ◌∷◌, length, take, drop, Ok, Err, Result, refl, ap, arith}
use Rattle.std.specs.List.{prefix_len}
use Rattle.std.proofs.lemmas.List.{length-drop}
use Rattle.script.specs.declared.token.Reason.{Reason}
use Rattle.script.specs.Tokens.{word_in}
use Rattle.script.specs.Readings.{Step, finished, word, stuck, Reading, in_token, skip_from, step_by, token_first, next_in, before, onward, read_within, reading_of}
use Rattle.script.specs.Laws.{StepByStep}
use Rattle.script.proofs.Fronts.{Begins, skipped, leading_some}

-- A word leaves fewer bytes than n.
abbrev pub Fewer : ℕ → Step → Type 0
Fewer n finished = Unit {0}
Fewer n (word w rest) = length rest < n
Fewer n (stuck why rest) = Unit {0}

step_fewer : (r : Result ℕ Reason) (here after : List ℕ) (n : ℕ) → length after < n → Fewer n (step_by r here after)
step_fewer (Ok w) here after n h = h
step_fewer (Err e) here after n h = tt

first_fewer : (bs : List ℕ) (n : ℕ) → Begins bs → length bs ≤ n → Fewer n (token_first bs)
first_fewer [] n b h = tt
first_fewer (b ∷ bs) n t h =
    let k : ℕ = prefix_len in_token (b ∷ bs) in
    let some = leading_some b bs t in
    step_fewer (word_in (take k (b ∷ bs))) (b ∷ bs) (drop k (b ∷ bs)) n (omega (arith, length-drop k (b ∷ bs)))

pub next_fewer : (bs : List ℕ) → Fewer (length bs) (next_in bs)
unfolding next_in
next_fewer bs = let s = skipped false bs in first_fewer (skip_from false bs) (length bs) s.begins s.shorter

same_onward : (f g : List ℕ → Reading) (n : ℕ) (s : Step) → Fewer n s → ((rest : List ℕ) → length rest < n → f rest ≡ g rest) → onward f s ≡ onward g s
same_onward f g n finished h same = refl
same_onward f g n (word w rest) h same = ap (before w) (same rest h)
same_onward f g n (stuck why rest) h same = refl

enough : (m n : ℕ) (bs : List ℕ) → length bs < m → length bs < n → read_within m bs ≡ read_within n bs
unfolding read_within
enough zero n bs h k = absurd (omega arith)
enough (suc m) zero bs h k = absurd (omega arith)
enough (suc m) (suc n) bs h k =
    same_onward (read_within m) (read_within n) (length bs) (next_in bs) (next_fewer bs) (λ rest l. enough m n rest (omega arith) (omega arith))

pub step_by_step : StepByStep
unfolding read_within reading_of
step_by_step text =
    same_onward (read_within (length text)) reading_of (length text) (next_in text) (next_fewer text)
    (λ rest l. enough (length text) (suc (length rest)) rest l (omega arith))
