-- Tokens that are written are read back, and gaps in front of them do not matter.
use Rattle.std.proofs.Common.{◌≡◌, ℕ, ◌<◌, true, List, [], ◌∷◌, ◌++◌, length, Some, refl, ap, ◌∙◌, append_assoc, arith}
use Rattle.std.specs.Fmt.{signed_decimal}
use Rattle.std.proofs.lemmas.Bool.Decides.{nat_tests}
use Rattle.std.proofs.lemmas.Bool.{and_parts}
use Rattle.pdf.specs.Bytes.{white, line_end, regular, name_byte, each, stops}
use Rattle.pdf.specs.Numbers.{integer}
use Rattle.pdf.specs.Tokens.{int, name, word, text, array_open, array_close, dict_open, dict_close, skip, skip_from, plain, among_plain, body, word_is, lex_by, lex, token, escaped}
use Rattle.pdf.specs.Values.{value, value_at, then}
use Rattle.pdf.specs.Laws.{TokensReadBack, GapsDoNotMatter, in_line}
use Rattle.pdf.proofs.Runs.{front_is, past_is, each_wider, name_regular}
use Rattle.pdf.proofs.Numbers.{integer_signed, signed_regular, signed_any}

-- A regular byte is not skipped, and begins a number or a word.
regular_begins : (c : ℕ) (cs : List ℕ) → regular c ≡ true → lex (skip (c ∷ cs)) ≡ lex_by plain c cs
regular_begins c cs h = grind (arith, nat_tests)

-- A run of regular bytes is one token.
pub run_token : (bs rest : List ℕ) → 0 < length bs → each regular bs ≡ true → stops rest ≡ true → token (bs ++ rest) ≡ Some (word_is (integer bs) bs, rest)
unfolding token
run_token [] rest l h s = absurd (omega arith)
run_token (c ∷ cs) rest l h s =
    regular_begins c (cs ++ rest) (and_parts (regular c) (each regular cs) h).0 ∙ rw (front_is regular (c ∷ cs) rest h s, past_is regular (c ∷ cs) rest h s)

name_token : (bs rest : List ℕ) → each name_byte bs ≡ true → stops rest ≡ true → token (47 ∷ (bs ++ rest)) ≡ Some (name bs, rest)
unfolding token
name_token bs rest h s = grind (arith, each_wider name_byte regular name_regular bs, front_is regular bs rest, past_is regular bs rest)

body_escaped : (bs rest : List ℕ) → body among_plain (escaped bs ++ (41 ∷ rest)) ≡ Some (bs, rest)
body_escaped [] rest = refl
body_escaped (c ∷ cs) rest = grind (arith, nat_tests, body_escaped cs rest)

text_token : (bs rest : List ℕ) → token ((40 ∷ (escaped bs ++ (41 ∷ []))) ++ rest) ≡ Some (text bs, rest)
unfolding token
text_token bs rest = rw (append_assoc (escaped bs) (41 ∷ []) rest, body_escaped bs rest)

pub tokens_read_back : TokensReadBack
unfolding token
tokens_read_back (int z) rest w s = run_token (signed_decimal z) rest (signed_any z w) (signed_regular z w) s ∙ rw (integer_signed z w)
tokens_read_back (name bs) rest w s = name_token bs rest w s
tokens_read_back (word bs) rest w s = grind (arith, run_token bs rest)
tokens_read_back (text bs) rest w s = text_token bs rest
tokens_read_back array_open rest w s = refl
tokens_read_back array_close rest w s = refl
tokens_read_back dict_open rest w s = refl
tokens_read_back dict_close rest w s = refl

skip_white : (c : ℕ) (bs : List ℕ) → white c ≡ true → skip (c ∷ bs) ≡ skip bs
skip_white c bs h = rw (h, skip_from)

-- A comment lasts as long as its line, and ends with it.
skip_line : (line : List ℕ) (e : ℕ) (bs : List ℕ) → each in_line line ≡ true → line_end e ≡ true → skip_from true (line ++ (e ∷ bs)) ≡ skip bs
skip_line [] e bs h l = rw (l, skip_from)
skip_line (c ∷ cs) e bs h l = grind (arith, skip_line cs e bs)

skip_unended : (line : List ℕ) → each in_line line ≡ true → skip_from true line ≡ []
skip_unended [] h = refl
skip_unended (c ∷ cs) h = grind (arith, skip_unended cs)

pub gaps_do_not_matter : GapsDoNotMatter
unfolding token value
gaps_do_not_matter =
    record {
      space = λ c bs h. ap lex (skip_white c bs h);
      comment = λ line e bs h l. ap lex (skip_line line e bs h l);
      unended = λ line h. ap lex (skip_unended line h);
      value_space = λ d c bs h. ap (λ l. then (lex l) (value_at d)) (skip_white c bs h);
      value_comment = λ d line e bs h l. ap (λ l. then (lex l) (value_at d)) (skip_line line e bs h l);
    }
