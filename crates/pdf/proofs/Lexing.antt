-- Each token that is read takes at least one byte, and has a written form.
use Rattle.std.proofs.Common.{◌≡◌, ℕ, suc, ◌+◌, ◌<◌, ◌≤◌, Bool, true, false, List, [], ◌∷◌, length, Option, refl, arith}
use Rattle.std.specs.Option.{IfSome}
use Rattle.std.proofs.lemmas.Option.{IfSome_then}
use Rattle.std.proofs.lemmas.Bool.Decides.{nat_tests}
use Rattle.pdf.specs.Bytes.{regular, each, front, past}
use Rattle.pdf.specs.Numbers.{in_range, integer}
use Rattle.pdf.specs.Tokens.{skip, skip_from, Token, dict_open, dict_close, as_name, as_text, twice, Kind, plain, slash, paren, square, square_end, less, more, stray, kind_of, Place, among_plain, Act, act, on_act, body, word_is, lex_by, lex, token, writable}
use Rattle.pdf.proofs.Runs.{past_le, front_each}

-- What a reader gives, if anything, passes the test, and fewer than n bytes are left.
abbrev pub Gives : {A : Type 0} → (A → Bool) → Option (A × List ℕ) → ℕ → Type 0
Gives p o n = IfSome o λ r. (p r.0 ≡ true) × (length r.1 < n)

skip_le : (b : Bool) (bs : List ℕ) → length (skip_from b bs) ≤ length bs
skip_le b [] = grind arith
skip_le b (c ∷ cs) = grind (arith, skip_le true cs, skip_le false cs)

-- An integer that is read is in range.
integer_ranged : (bs : List ℕ) → IfSome (integer bs) λ z. in_range z ≡ true
integer_ranged bs = grind arith

-- A run of regular bytes is an integer in range or a word.
run_writable : (bs : List ℕ) → 0 < length bs → each regular bs ≡ true → writable (word_is (integer bs) bs) ≡ true
run_writable bs l h = grind (arith, integer_ranged bs)

-- A string's bytes up to its end.
act_below : (go : Place → Option (List ℕ × List ℕ)) (cs : List ℕ) (a : Act) → ((q : Place) → IfSome (go q) λ r. length r.1 ≤ length cs) → IfSome (on_act go cs a) λ r. length r.1 ≤ length cs + 1
act_below go cs a h = grind (arith, h)

body_le : (p : Place) (cs : List ℕ) → IfSome (body p cs) λ r. length r.1 ≤ length cs
body_le p [] = tt
body_le p (c ∷ cs) = IfSome_then (body p (c ∷ cs)) (act_below (λ q. body q cs) cs (act p c) (λ q. body_le q cs)) λ r h. omega arith

pub plain_regular : (c : ℕ) → kind_of c ≡ plain → regular c ≡ true
plain_regular c e = grind (arith, nat_tests)

plain_gives : (c : ℕ) (cs : List ℕ) → regular c ≡ true → Gives writable (lex_by plain c cs) (length (c ∷ cs))
plain_gives c cs r = grind (arith, run_writable (front regular (c ∷ cs)), front_each regular (c ∷ cs), past_le regular cs)

name_gives : (bs rest : List ℕ) (n : ℕ) → length rest ≤ n → Gives writable (as_name bs rest) (suc n)
name_gives bs rest n l = grind arith

text_gives : (o : Option (List ℕ × List ℕ)) (n : ℕ) → (IfSome o λ r. length r.1 ≤ n) → Gives writable (as_text o) (suc n)
text_gives o n h = grind arith

twice_gives : (x : ℕ) (t : Token) (cs : List ℕ) → writable t ≡ true → Gives writable (twice x t cs) (suc (length cs))
twice_gives x t cs w = grind arith

kind_gives : (k : Kind) (c : ℕ) (cs : List ℕ) → kind_of c ≡ k → Gives writable (lex_by k c cs) (suc (length cs))
kind_gives plain c cs e = plain_gives c cs (plain_regular c e)
kind_gives slash c cs e = name_gives (front regular cs) (past regular cs) (length cs) (past_le regular cs)
kind_gives paren c cs e = text_gives (body among_plain cs) (length cs) (body_le among_plain cs)
kind_gives square c cs e = (refl, omega arith)
kind_gives square_end c cs e = (refl, omega arith)
kind_gives less c cs e = twice_gives 60 dict_open cs refl
kind_gives more c cs e = twice_gives 62 dict_close cs refl
kind_gives stray c cs e = tt

lex_gives : (bs : List ℕ) → Gives writable (lex bs) (length bs)
lex_gives [] = tt
lex_gives (c ∷ cs) = kind_gives (kind_of c) c cs refl

pub token_gives : (bs : List ℕ) → Gives writable (token bs) (length bs)
unfolding token
token_gives bs = IfSome_then (lex (skip bs)) (lex_gives (skip bs)) λ r h. (h.0, omega (arith, skip_le false bs))
