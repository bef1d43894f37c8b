-- White space, comments and tokens at the front of a text.
use Rattle.std.proofs.Common.{◌≡◌, ℕ, ◌<◌, ◌≤◌, Bool, true, false, not, List, [], ◌∷◌, ◌++◌, length, sym, refl, ⊎_elim, arith}
use Rattle.std.specs.List.{prefix_len, AllByRecursion}
use Rattle.std.proofs.lemmas.Bool.{cases_Bool, not-true, or_parts}
use Rattle.std.proofs.lemmas.Bool.Decides.{nat_tests}
use Rattle.script.specs.Laws.{CommentOver, TokenOver}
use Rattle.script.specs.Readings.{white, opens_comment, ends_comment, in_token, skip_from}

-- A turn of the loop that skips.
pub skip_white : (b : ℕ) (bs : List ℕ) → white b ≡ true → skip_from false (b ∷ bs) ≡ skip_from false bs
skip_white b bs t = rw (t, skip_from)

pub skip_opens : (b : ℕ) (bs : List ℕ) → white b ≡ false → opens_comment b ≡ true → skip_from false (b ∷ bs) ≡ skip_from true bs
skip_opens b bs f t = rw (f, skip_from, t)

pub skip_stops : (b : ℕ) (bs : List ℕ) → in_token b ≡ true → skip_from false (b ∷ bs) ≡ b ∷ bs
skip_stops b bs t =
    let p = or_parts (white b) (opens_comment b) (not-true _ t) in
    let f : white b ≡ false = p.0 in
    let g : opens_comment b ≡ false = p.1 in
    rw (f, skip_from, g)

-- What is skipped leaves nothing, or a token in front.
abbrev pub Begins : List ℕ → Type 0
Begins [] = Unit {0}
Begins (b ∷ bs) = in_token b ≡ true

pub record Skipped (all rest : List ℕ) : Type 0 where
  pub shorter : length rest ≤ length all
  pub begins : Begins rest

more_skipped : (b : ℕ) (bs rest : List ℕ) → Skipped bs rest → Skipped (b ∷ bs) rest
more_skipped b bs rest s = record { shorter = omega (arith, s.shorter); begins = s.begins }

pub skipped : (comment : Bool) (bs : List ℕ) → Skipped bs (skip_from comment bs)
skipped true [] = record { shorter = omega arith; begins = tt }
skipped false [] = record { shorter = omega arith; begins = tt }
skipped true (b ∷ bs) = more_skipped b bs _ (skipped (not (ends_comment b)) bs)
skipped false (b ∷ bs) = ⊎_elim
    (λ (t : white b ≡ true). rw (skip_white b bs t) (more_skipped b bs _ (skipped false bs)))
    (λ (f : white b ≡ false). ⊎_elim
    (λ (t : opens_comment b ≡ true). rw (skip_opens b bs f t) (more_skipped b bs _ (skipped true bs)))
    (λ (g : opens_comment b ≡ false).
    let t : in_token b ≡ true = grind (arith, nat_tests) in
    rw (skip_stops b bs t) (record { shorter = omega arith; begins = t }))
    (cases_Bool (opens_comment b)))
    (cases_Bool (white b))

-- A comment, up to where it ends.
comment_over : (rest : List ℕ) → CommentOver rest → skip_from true rest ≡ skip_from false rest
comment_over [] o = refl
comment_over (b ∷ bs) o = let w : white b ≡ true = grind (arith, nat_tests) in rw (o, skip_from) (sym (skip_white b bs w))

pub skip_comment : (comment rest : List ℕ) → AllByRecursion (λ c. ends_comment c ≡ false) comment → CommentOver rest → skip_from true (comment ++ rest) ≡ skip_from false rest
skip_comment [] rest a o = comment_over rest o
skip_comment (c ∷ cs) rest a o = let f : ends_comment c ≡ false = a.0 in rw (f, skip_from) (skip_comment cs rest a.1 o)

-- A token, up to where it ends.
token_over : (rest : List ℕ) → TokenOver rest → prefix_len in_token rest ≡ 0
token_over [] o = refl
token_over (b ∷ bs) o = rw o

pub leading_token : (token rest : List ℕ) → AllByRecursion (λ c. in_token c ≡ true) token → TokenOver rest → prefix_len in_token (token ++ rest) ≡ length token
leading_token [] rest a o = token_over rest o
leading_token (c ∷ cs) rest a o = let t : in_token c ≡ true = a.0 in rw (t, leading_token cs rest a.1 o) (omega arith)

pub leading_some : (b : ℕ) (bs : List ℕ) → in_token b ≡ true → 0 < prefix_len in_token (b ∷ bs)
leading_some b bs t = rw t (omega arith)
