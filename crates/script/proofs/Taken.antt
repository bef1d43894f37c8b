-- What the reading of a text is, from the item that a reader found in it.
use Rattle.std.proofs.Common.{◌≡◌, ℕ, ◌+◌, ◌<◌, ◌≤◌, true, false, List, [], ◌∷◌, ◌++◌, length, take, drop, set, Some, None, Ok, Err, Option, Result, is_some, sym, refl, ap, ◌∙◌, append_assoc, append-nil, arith}
use Rattle.std.proofs.lemmas.List.{take_more_set, drop-set-lt, drop_more, take_all, drop_all, take-append-drop}
use Rattle.script.specs.Readings.{Halt, Step, finished, word, stuck, Reading, next_in, left_after, all_read, before, onward, reading_of}
use Rattle.script.specs.Answers.{fault_at, item_of, count_or, counted, overlaid}
use Rattle.script.specs.declared.scan.Fault.{Fault}
use Rattle.script.proofs.Stepwise.{Fewer, next_fewer, step_by_step}

-- A word is the first of the reading, and leaves less to read.
word_step : (text : List ℕ) (s : Step) (w : ℕ) → Ok (Some w) ≡ item_of text s → s ≡ word w (left_after s)
word_step text finished w e = absurd (cc)
word_step text (word v rest) w e = cc
word_step text (stuck why rest) w e = absurd (cc)

pub word_first : (text bs : List ℕ) (w : ℕ) → Ok (Some w) ≡ item_of text (next_in bs) → reading_of bs ≡ before w (reading_of (left_after (next_in bs)))
word_first text bs w e = step_by_step bs ∙ ap (onward reading_of) (word_step text (next_in bs) w e)

fewer_by : (text : List ℕ) (n : ℕ) (s : Step) (w : ℕ) → Fewer n s → Ok (Some w) ≡ item_of text s → length (left_after s) < n
fewer_by text n finished w f e = absurd (cc)
fewer_by text n (word v rest) w f e = f
fewer_by text n (stuck why rest) w f e = absurd (cc)

pub word_shortens : (text bs : List ℕ) (w : ℕ) → Ok (Some w) ≡ item_of text (next_in bs) → length (left_after (next_in bs)) < length bs
word_shortens text bs w e = fewer_by text (length bs) (next_in bs) w (next_fewer bs) e

-- The end has no words.
end_step : (text : List ℕ) (s : Step) → Ok None ≡ item_of text s → onward reading_of s ≡ all_read []
end_step text finished e = refl
end_step text (word v rest) e = absurd (cc)
end_step text (stuck why rest) e = absurd (cc)

pub end_reads_none : (text bs : List ℕ) → Ok None ≡ item_of text (next_in bs) → reading_of bs ≡ all_read []
end_reads_none text bs e = step_by_step bs ∙ end_step text (next_in bs) e

-- A value that is there, and none.
pub some_there : (o : Option ℕ) → true ≡ is_some o → (w : ℕ) × (o ≡ Some w)
some_there None e = absurd (cc)
some_there (Some w) e = (w, refl)

pub none_there : (o : Option ℕ) → false ≡ is_some o → o ≡ None
none_there None e = refl
none_there (Some w) e = absurd (cc)

-- A fault is that of the reading.
bad_step : (text : List ℕ) (s : Step) (f : Fault) (n : ℕ) → Err f ≡ item_of text s → Err f ≡ count_or text n (onward reading_of s).halt
bad_step text finished f n e = absurd (cc)
bad_step text (word v rest) f n e = absurd (cc)
bad_step text (stuck why rest) f n e = let g : f ≡ fault_at text why rest = cc in ap Err g

pub bad_counts : (text bs : List ℕ) (f : Fault) (n : ℕ) → Err f ≡ item_of text (next_in bs) → Err f ≡ count_or text n (reading_of bs).halt
bad_counts text bs f n e = bad_step text (next_in bs) f n e ∙ ap (λ (r : Reading). count_or text n r.halt) (sym (step_by_step bs))

-- An item that is no word leaves no words.
no_word_step : (text : List ℕ) (s : Step) (i : Result (Option ℕ) Fault) → i ≡ item_of text s → ((w : ℕ) → ¬ i ≡ Ok (Some w)) → (onward reading_of s).words ≡ []
no_word_step text finished i e n = refl
no_word_step text (word v rest) i e n = absurd (n v e)
no_word_step text (stuck why rest) i e n = refl

pub no_word_left : (text bs : List ℕ) (i : Result (Option ℕ) Fault) → i ≡ item_of text (next_in bs) → ((w : ℕ) → ¬ i ≡ Ok (Some w)) → (reading_of bs).words ≡ []
no_word_left text bs i e n = ap (λ (r : Reading). r.words) (step_by_step bs) ∙ no_word_step text (next_in bs) i e n

-- The count is that of the words.
count_by : (text : List ℕ) (k : ℕ) (h : Option Halt) (n : ℕ) → Ok n ≡ count_or text k h → n ≡ k
count_by text k None n e = cc
count_by text k (Some h) n e = absurd (cc)

pub count_is : (text : List ℕ) (r : Reading) (n : ℕ) → Ok n ≡ counted text r → n ≡ length r.words
count_is text r n e = count_by text (length r.words) r.halt n e

-- A word more in the memory.
pub overlaid_more : (w : ℕ) (ws ms : List ℕ) (i : ℕ) → i < length ms → take (i + 1) (set ms i w) ++ overlaid ws (drop (i + 1) (set ms i w)) ≡ take i ms ++ overlaid (w ∷ ws) (drop i ms)
overlaid_more w ws ms i h =
    ap (λ front. front ++ overlaid ws (drop (i + 1) (set ms i w))) (take_more_set ms i w h)
    ∙ ap (λ rest. (take i ms ++ w ∷ []) ++ overlaid ws rest) (drop-set-lt (i + 1) ms i w (omega arith))
    ∙ append_assoc (take i ms) (w ∷ []) (overlaid ws (drop (i + 1) ms))
    ∙ ap (λ rest. take i ms ++ overlaid (w ∷ ws) rest) (sym (drop_more ms i 0 h))

pub overlaid_none : (ws ms : List ℕ) (i : ℕ) → ws ≡ [] → ms ≡ take i ms ++ overlaid ws (drop i ms)
overlaid_none ws ms i e = rw e (sym (take-append-drop i ms))

overlaid_nowhere : (ws : List ℕ) → overlaid ws [] ≡ []
overlaid_nowhere [] = refl
overlaid_nowhere (w ∷ ws) = refl

pub overlaid_full : (ws ms : List ℕ) (i : ℕ) → length ms ≤ i → ms ≡ take i ms ++ overlaid ws (drop i ms)
overlaid_full ws ms i h =
    sym (ap (λ rest. take i ms ++ overlaid ws rest) (drop_all i ms h)
    ∙ ap (λ rest. take i ms ++ rest) (overlaid_nowhere ws)
    ∙ append-nil (take i ms) ∙ take_all i ms h)

pub overlaid_whole : (ws ms : List ℕ) → length ws ≤ length ms → overlaid ws ms ≡ ws ++ drop (length ws) ms
overlaid_whole [] ms h = refl
overlaid_whole (w ∷ ws) [] h = absurd (omega arith)
overlaid_whole (w ∷ ws) (m ∷ ms) h = ap (λ rest. w ∷ rest) (overlaid_whole ws ms (omega arith))
