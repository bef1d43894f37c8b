-- Shifts, turns and places by matrices, quarter by quarter.
use Rattle.std.proofs.Common.{◌≡◌, ℕ, zero, suc, ◌+◌, ◌*◌, ◌%◌, ◌<◌, List, [], ◌∷◌, length, ℤ, pos, negsuc, ◌+ℤ◌, ◌*ℤ◌, neg_ℤ, refl, ap, ◌∙◌, subst, mul-suc, arith}
use lib.IntN.{*ℤ_comm}
use Rattle.std.proofs.lemmas.Int.{ints}
use Rattle.machine.specs.declared.types.Axes.{Axes}
use Rattle.machine.specs.declared.types.Letter.{Letter}
use Rattle.machine.specs.declared.types.Numbers.{Numbers}
use Rattle.machine.specs.Axes.{one_of, rotated_x, rotated_y, shifted, turned}
use Rattle.machine.specs.State.{along, glyph_at, glyph_set, glyphs_set, point_at}
use Rattle.machine.specs.Laws.{GlyphStands, Multiplied, PointStands, matrix_of, shift_by, turn_by}

-- what holds at 0, 1, 2 and 3 holds below 4
quarters : (P : ℕ → Type 0) → P 0 → P 1 → P 2 → P 3 → (q : ℕ) → q < 4 → P q
quarters P p0 p1 p2 p3 zero h = p0
quarters P p0 p1 p2 p3 (suc zero) h = p1
quarters P p0 p1 p2 p3 (suc (suc zero)) h = p2
quarters P p0 p1 p2 p3 (suc (suc (suc zero))) h = p3
quarters P p0 p1 p2 p3 (suc (suc (suc (suc n)))) h = absurd (omega arith)

-- a turned place is the place times the turn's matrix
abbrev Across : ℤ → ℤ → ℤ → ℕ → Type 0
Across e x y q = e +ℤ one_of q x (neg_ℤ y) (neg_ℤ x) y ≡ one_of q (pos 1) (pos 0) (negsuc 0) (pos 0) *ℤ x +ℤ neg_ℤ (one_of q (pos 0) (pos 1) (pos 0) (negsuc 0)) *ℤ y +ℤ e

abbrev Up : ℤ → ℤ → ℤ → ℕ → Type 0
Up e x y q = e +ℤ one_of q y x (neg_ℤ y) (neg_ℤ x) ≡ one_of q (pos 0) (pos 1) (pos 0) (negsuc 0) *ℤ x +ℤ one_of q (pos 1) (pos 0) (negsuc 0) (pos 0) *ℤ y +ℤ e

across : (t : ℕ) (e x y : ℤ) → Across e x y (t % 4)
across t e x y = quarters (Across e x y) (omega (arith, ints)) (omega (arith, ints)) (omega (arith, ints)) (omega (arith, ints)) (t % 4) (omega arith)

up : (t : ℕ) (e x y : ℤ) → Up e x y (t % 4)
up t e x y = quarters (Up e x y) (omega (arith, ints)) (omega (arith, ints)) (omega (arith, ints)) (omega (arith, ints)) (t % 4) (omega arith)

-- in a product with one and nothing, one factor stays
first_stays : (p q : ℤ) → p ≡ pos 1 *ℤ p +ℤ pos 0 *ℤ q
first_stays p q = omega (arith, ints)

second_stays : (p q : ℤ) → q ≡ pos 0 *ℤ p +ℤ pos 1 *ℤ q
second_stays p q = omega (arith, ints)

last_stays : (p q e : ℤ) → e ≡ pos 0 *ℤ p +ℤ pos 0 *ℤ q +ℤ e
last_stays p q e = omega (arith, ints)

-- shifting is multiplying by the shift's matrix
pub shift_multiplies : (at : Axes) (a b : ℤ) → Multiplied (shift_by a b) at (shifted at a b)
shift_multiplies at a b =
    let m = matrix_of at in
    let e : (shifted at a b).x ≡ a *ℤ m.a +ℤ b *ℤ m.c +ℤ m.e = across at.turn at.x a b ∙ (λ i. *ℤ_comm m.a a i +ℤ *ℤ_comm m.c b i +ℤ m.e) in
    let f : (shifted at a b).y ≡ a *ℤ m.b +ℤ b *ℤ m.d +ℤ m.f = up at.turn at.y a b ∙ (λ i. *ℤ_comm m.b a i +ℤ *ℤ_comm m.d b i +ℤ m.f) in
    λ i. record {
      a = first_stays m.a m.c i;
      b = first_stays m.b m.d i;
      c = second_stays m.a m.c i;
      d = second_stays m.b m.d i;
      e = e i;
      f = f i;
    }

-- the cosine and the sine of a sum, as the four places of a product have them
abbrev Cos : ℕ → ℤ
Cos q = one_of q (pos 1) (pos 0) (negsuc 0) (pos 0)

abbrev Sin : ℕ → ℤ
Sin q = one_of q (pos 0) (pos 1) (pos 0) (negsuc 0)

abbrev Sums : ℕ → ℕ → ℕ → Type 0
Sums s q r =
    (Cos s ≡ Cos r *ℤ Cos q +ℤ Sin r *ℤ neg_ℤ (Sin q))
    × (Sin s ≡ Cos r *ℤ Sin q +ℤ Sin r *ℤ Cos q)
    × (neg_ℤ (Sin s) ≡ neg_ℤ (Sin r) *ℤ Cos q +ℤ Cos r *ℤ neg_ℤ (Sin q))
    × (Cos s ≡ neg_ℤ (Sin r) *ℤ Sin q +ℤ Cos r *ℤ Cos q)

abbrev SumsAt : ℕ → ℕ → Type 0
SumsAt q r = Sums ((q + r) % 4) q r

sums_at : (q r : ℕ) → q < 4 → r < 4 → SumsAt q r
sums_at q r h k =
    let R : ℕ → Type 0 = λ q. SumsAt q r in
    quarters R
    (quarters (SumsAt 0) (refl, refl, refl, refl) (refl, refl, refl, refl) (refl, refl, refl, refl) (refl, refl, refl, refl) r k)
    (quarters (SumsAt 1) (refl, refl, refl, refl) (refl, refl, refl, refl) (refl, refl, refl, refl) (refl, refl, refl, refl) r k)
    (quarters (SumsAt 2) (refl, refl, refl, refl) (refl, refl, refl, refl) (refl, refl, refl, refl) (refl, refl, refl, refl) r k)
    (quarters (SumsAt 3) (refl, refl, refl, refl) (refl, refl, refl, refl) (refl, refl, refl, refl) (refl, refl, refl, refl) r k)
    q h

sums : (t k : ℕ) → Sums ((t + k) % 4 % 4) (t % 4) (k % 4)
sums t k =
    let e : (t % 4 + k % 4) % 4 ≡ (t + k) % 4 % 4 = omega arith in
    let R : ℕ → Type 0 = λ s. Sums s (t % 4) (k % 4) in
    subst R e (sums_at (t % 4) (k % 4) (omega arith) (omega arith))

-- turning is multiplying by the turn's matrix
pub turn_multiplies : (at : Axes) (k : ℕ) → Multiplied (turn_by k) at (turned at k)
turn_multiplies at k =
    let m = matrix_of at in
    let told = sums at.turn k in
    λ i. record {
      a = told.0 i;
      b = told.1 i;
      c = told.2 i;
      d = told.3 i;
      e = last_stays m.a m.c m.e i;
      f = last_stays m.b m.d m.f i;
    }

ten_times : (x y : ℤ) → pos 10 *ℤ x +ℤ pos 10 *ℤ y ≡ pos 10 *ℤ (x +ℤ y)
ten_times x y = omega (arith, ints)

-- a point stands where its operands times the matrix are
pub point_stands : (shape : Letter) (at : Axes) (a b : ℤ) → PointStands at a b (point_at shape at a b)
point_stands shape at a b = record {
  across = ten_times at.x (rotated_x at.turn a b) ∙ ap (λ z. pos 10 *ℤ z) (across at.turn at.x a b);
  up = ten_times at.y (rotated_y at.turn a b) ∙ ap (λ z. pos 10 *ℤ z) (up at.turn at.y a b);
}

-- turning ten times a place is ten times the turned place
pub tenfold_x : (t : ℕ) (x y : ℤ) → rotated_x t (pos 10 *ℤ x +ℤ pos 0) (pos 10 *ℤ y) ≡ pos 10 *ℤ rotated_x t x y
tenfold_x t x y = grind (arith, ints)

pub tenfold_y : (t : ℕ) (x y : ℤ) → rotated_y t (pos 10 *ℤ x +ℤ pos 0) (pos 10 *ℤ y) ≡ pos 10 *ℤ rotated_y t x y
tenfold_y t x y = grind (arith, ints)

-- a glyph stands where the start of the line and the advance times the matrix are
pub glyph_stands : (n : Numbers) (code : ℕ) → GlyphStands n (glyph_at n code)
glyph_stands n code = record {
  across = across n.axes.turn (pos 10 *ℤ n.axes.x) (along n.line) (pos 10 *ℤ n.line.y);
  up = up n.axes.turn (pos 10 *ℤ n.axes.y) (along n.line) (pos 10 *ℤ n.line.y);
}

-- each glyph adds as much to the advance
pub advances : (n : Numbers) (xs : List ℕ) → (glyphs_set n xs).line.advance ≡ n.line.advance + 6 * n.line.size * length xs
advances n [] = omega arith
advances n (x ∷ xs) =
    let rest = advances (glyph_set n) xs in
    let w = 6 * n.line.size in
    let more : w * suc (length xs) ≡ w * length xs + w = mul-suc w (length xs) in
    omega (arith, rest, more)
