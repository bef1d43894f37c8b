-- A byte of some words set, and how many bytes they have.
use Rattle.std.proofs.Common.{◌≡◌, ℕ, zero, suc, ◌+◌, ◌*◌, ◌/◌, ◌%◌, ◌<◌, List, [], ◌∷◌, ◌++◌, length, get_or, set, refl, ap, ◌∙◌, arith}
use Rattle.flash.specs.Words.{word_bytes, word_of, flat}

pub length_flat : (ws : List ℕ) → length (flat ws) ≡ 4 * length ws
length_flat [] = refl
length_flat (w ∷ ws) = omega (arith, length_flat ws)

cons4 : {a a' b b' c c' d d' : ℕ} (xs : List ℕ) → a ≡ a' → b ≡ b' → c ≡ c' → d ≡ d' → (a ∷ b ∷ c ∷ d ∷ xs) ≡ (a' ∷ b' ∷ c' ∷ d' ∷ xs)
cons4 xs p q r s = cc

-- the bytes of a word made of bytes
word_bytes-word_of : (a b c d : ℕ) (xs : List ℕ) → a < 256 → b < 256 → c < 256 → d < 256 → word_bytes (word_of (a ∷ b ∷ c ∷ d ∷ [])) ++ xs ≡ a ∷ b ∷ c ∷ d ∷ xs
word_bytes-word_of a b c d xs ha hb hc hd = cons4 xs (omega arith) (omega arith) (omega arith) (omega arith)

first_set : (w r b : ℕ) (xs : List ℕ) → r < 4 → b < 256 → word_bytes (word_of (set (word_bytes w) r b)) ++ xs ≡ set (word_bytes w ++ xs) r b
first_set w zero b xs hr hb = word_bytes-word_of _ _ _ _ xs hb (omega arith) (omega arith) (omega arith)
first_set w (suc zero) b xs hr hb = word_bytes-word_of _ _ _ _ xs (omega arith) hb (omega arith) (omega arith)
first_set w (suc (suc zero)) b xs hr hb = word_bytes-word_of _ _ _ _ xs (omega arith) (omega arith) hb (omega arith)
first_set w (suc (suc (suc zero))) b xs hr hb = word_bytes-word_of _ _ _ _ xs (omega arith) (omega arith) (omega arith) hb
first_set w (suc (suc (suc (suc r)))) b xs hr hb = absurd (omega arith)

pub flat_set : (ws : List ℕ) (q r b : ℕ) → q < length ws → r < 4 → b < 256 → flat (set ws q (word_of (set (word_bytes (get_or ws q 0)) r b))) ≡ set (flat ws) (4 * q + r) b
flat_set [] q r b hq hr hb = absurd (omega arith)
flat_set (w ∷ ws) zero r b hq hr hb = let z : 4 * 0 + r ≡ r = omega arith in rw z (first_set w r b (flat ws) hr hb)
flat_set (w ∷ ws) (suc q) r b hq hr hb =
    let z : 4 * suc q + r ≡ suc (suc (suc (suc (4 * q + r)))) = omega arith in
    rw z (ap (λ xs. word_bytes w ++ xs) (flat_set ws q r b (omega arith) hr hb))

-- the byte at `at`
pub flat_set_at : (ws : List ℕ) (at b : ℕ) → at < 4 * length ws → b < 256 → flat (set ws (at / 4) (word_of (set (word_bytes (get_or ws (at / 4) 0)) (at % 4) b))) ≡ set (flat ws) at b
flat_set_at ws at b h hb =
    let e : 4 * (at / 4) + at % 4 ≡ at = omega arith in
    flat_set ws (at / 4) (at % 4) b (omega arith) (omega arith) hb ∙ rw e
