-- The laws of reading.
use Rattle.std.proofs.Common.{◌≡◌, ℕ, ◌<◌, true, false, List, [], ◌∷◌, ◌++◌, length, take, drop, sym, refl, ap, ◌∙◌, append_assoc, arith}
use Rattle.std.specs.List.{AllByRecursion}
use Rattle.std.proofs.lemmas.List.{take_at, drop_at}
use Rattle.script.specs.Digits.{hex_of}
use Rattle.script.specs.Tokens.{word_in}
use Rattle.script.specs.Readings.{in_token, step_by, token_first, skip_from, next_in, onward, before, all_read, read_within, reading_of}
use Rattle.script.specs.Laws.{written, TokenOver, WrittenIsRead, WhiteSpaceIsSkipped, CommentsAreSkipped, TokensAreWords, ReadingIsLawful}
use Rattle.script.proofs.Written.{written_word, digits_in_token}
use Rattle.script.proofs.Fronts.{skip_white, skip_comment, skip_stops, leading_token}
use Rattle.script.proofs.Stepwise.{step_by_step}

-- Texts that begin alike, behind what is skipped, read alike.
same_reading : (a b : List ℕ) → skip_from false a ≡ skip_from false b → reading_of a ≡ reading_of b
unfolding next_in
same_reading a b e = step_by_step a ∙ ap (λ bs. onward reading_of (token_first bs)) e ∙ sym (step_by_step b)

pub white_space_is_skipped : WhiteSpaceIsSkipped
white_space_is_skipped b text t = same_reading (b ∷ text) text (skip_white b text t)

pub comments_are_skipped : CommentsAreSkipped
comments_are_skipped comment rest a o = same_reading (35 ∷ comment ++ rest) rest (skip_comment comment rest a o)

token_next : (token rest : List ℕ) → 0 < length token → AllByRecursion (λ c. in_token c ≡ true) token → TokenOver rest → next_in (token ++ rest) ≡ step_by (word_in token) (token ++ rest) rest
unfolding next_in
token_next [] rest h a o = absurd (omega arith)
token_next (c ∷ cs) rest h a o =
    let all : List ℕ = (c ∷ cs) ++ rest in
    ap token_first (skip_stops c (cs ++ rest) a.0)
    ∙ ap (λ k. step_by (word_in (take k all)) all (drop k all)) (leading_token (c ∷ cs) rest a o)
    ∙ ap (λ t. step_by (word_in t) all (drop (length (c ∷ cs)) all)) (take_at (c ∷ cs) rest _ refl)
    ∙ ap (step_by (word_in (c ∷ cs)) all) (drop_at (c ∷ cs) rest _ refl)

pub tokens_are_words : TokensAreWords
tokens_are_words token rest h a o = step_by_step (token ++ rest) ∙ ap (onward reading_of) (token_next token rest h a o)

empty_reads_none : reading_of [] ≡ all_read []
unfolding reading_of read_within next_in
empty_reads_none = refl

pub written_is_read : WrittenIsRead
written_is_read [] a = empty_reads_none
written_is_read (w ∷ ws) a =
    let token : List ℕ = 48 ∷ 120 ∷ hex_of w in
    let rest : List ℕ = 10 ∷ written ws in
    ap reading_of (append_assoc token (10 ∷ []) (written ws))
    ∙ tokens_are_words token rest (omega arith) (refl, (refl, digits_in_token 8 w)) refl
    ∙ ap (λ r. onward reading_of (step_by r (token ++ rest) rest)) (written_word w a.0)
    ∙ ap (before w) (white_space_is_skipped 10 (written ws) refl ∙ written_is_read ws a.1)

pub reading_is_lawful : ReadingIsLawful
reading_is_lawful = record {
  empty = empty_reads_none;
  white_space = white_space_is_skipped;
  comments = comments_are_skipped;
  tokens = tokens_are_words;
  stepwise = step_by_step;
}
