-- The end of the text, a word, and a token that cannot be read.
use Rattle.std.proofs.Common.{◌≡◌, ℕ, ◌<◌, false, List, [], ◌∷◌, length, take, drop, Ok, Err, Result, sym, refl, ap, ◌∙◌, arith, rules}
use Rattle.std.specs.List.{prefix_len}
use Rattle.std.specs.Result.{MatchResult}
use Rattle.std.proofs.lemmas.Result.{err_from_is_err_and, MatchResult-weaker}
use Rattle.script.specs.declared.token.Reason.{Reason}
use Rattle.script.specs.declared.scan.Fault.{Fault}
use Rattle.script.specs.Tokens.{word_in}
use Rattle.script.specs.Readings.{in_token, skip_from, Step, finished, word, step_by, token_first, next_in, left_after}
use Rattle.script.specs.Answers.{left, fault_at, item_of}
use Rattle.script.proofs.Taken.{word_shortens}
use Rattle.script.proofs.scan.Reader.next.Goals as goal

-- The step where nothing is left, and where a token is.
next_none : (bs here : List ℕ) → here ≡ skip_from false bs → length here ≡ 0 → next_in bs ≡ finished
unfolding next_in
next_none bs [] e h = ap token_first (sym e)
next_none bs (b ∷ here) e h = absurd (omega arith)

next_token : (bs here : List ℕ) (n : ℕ) → here ≡ skip_from false bs → 0 < length here → n ≡ prefix_len in_token here → next_in bs ≡ step_by (word_in (take n here)) here (drop n here)
unfolding next_in
next_token bs [] n e h f = absurd (omega arith)
next_token bs (b ∷ here) n e h f = ap token_first (sym e) ∙ ap (λ k. step_by (word_in (take k (b ∷ here))) (b ∷ here) (drop k (b ∷ here))) (sym f)

-- What the reader tells of a token that writes no word, and where it stands then.
told : (text here after : List ℕ) (r : Result ℕ Reason) (m : Result ℕ Fault) (f : Fault) (s : Step) → MatchResult r (λ w. m ≡ Ok w) (λ why. m ≡ Err (fault_at text why here)) → m ≡ Err f → s ≡ step_by r here after → (Err f ≡ item_of text s) × (here ≡ left_after s)
told text here after (Ok w) m f s k e g = absurd (cc)
told text here after (Err why) m f s k e g = let fault : f ≡ fault_at text why here = cc in rw g (ap Err fault, refl)

pub returns-then-is_empty : goal.returns-then-is_empty
unfolding next_in
returns-then-is_empty c =
    let e = next_none (left c.args.self.now) c.skip-self.result.now c.skip-self.ensures.rest (grind arith) in
    search rules

pub returns-in_err-word : goal.returns-in_err-word
returns-in_err-word c =
    let text = c.args.self.now.text.now in
    let here = c.skip-self.result.now in
    let m = c.map_err.result in
    let e = next_token (left c.args.self.now) here c.token_len.result c.skip-self.ensures.rest (grind arith) c.token_len.ensures.len in
    let by_word = MatchResult-weaker c.word_in.result {P' = λ w. m ≡ Ok w} {Q' = λ why. m ≡ Err (fault_at text why here)} c.map_err.ensures.cases (λ w h. h)
    (λ why h. let q = err_from_is_err_and m h in q.1 ∙ ap Err (let fault = q.2 in search rules))
    in
    let found = told text here (drop c.token_len.result here) (word_in (take c.token_len.result here)) m c.in_err-word.field-0.0 _ (rw (c.word_in.ensures, c.split_at.ensures.front) at by_word) c.in_err-word.was e in
    let p = err_from_is_err_and c.from_residual.result c.from_residual.ensures.1 in
    rw (p.1, p.2) record { item = found.0; left = found.1; text = refl; shorter = λ w h. absurd (cc) }

pub returns : goal.returns
returns c =
    let text = c.args.self.now.text.now in
    let e : next_in (left c.args.self.now) ≡ word c.in_ok-word.word c.split_at.result.1.now =
    next_token (left c.args.self.now) c.skip-self.result.now c.token_len.result c.skip-self.ensures.rest (grind arith) c.token_len.ensures.len ∙ search rules in
    let item = sym (ap (item_of text) e) in
    record {
      item = item;
      left = sym (ap left_after e);
      text = refl;
      shorter = λ w h. rw (ap left_after e) at (word_shortens text (left c.args.self.now) c.in_ok-word.word item);
    }
