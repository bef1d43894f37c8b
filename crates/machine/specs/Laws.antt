-- The laws of places: they are what the matrices of the file format make them (ISO 32000-1, 8.3.3 and 8.3.4).
use Rattle.std.specs.Prelude.{◌≡◌, ℕ, ◌*◌, List, length, ℤ, pos, negsuc, ◌+ℤ◌, ◌*ℤ◌, neg_ℤ}
use Rattle.machine.specs.declared.types.Axes.{Axes}
use Rattle.machine.specs.declared.types.Drawn.{Drawn}
use Rattle.machine.specs.declared.types.Numbers.{Numbers}
use Rattle.machine.specs.Axes.{by_quarter}
use Rattle.machine.specs.State.{glyphs_set}

-- A matrix of six numbers: its rows are (a, b, 0), (c, d, 0) and (e, f, 1).
pub record Matrix : Type 0 where
  pub a : ℤ
  pub b : ℤ
  pub c : ℤ
  pub d : ℤ
  pub e : ℤ
  pub f : ℤ

-- The product of two matrices, row by column.
abbrev pub times : Matrix → Matrix → Matrix
times m n = record {
  a = m.a *ℤ n.a +ℤ m.b *ℤ n.c;
  b = m.a *ℤ n.b +ℤ m.b *ℤ n.d;
  c = m.c *ℤ n.a +ℤ m.d *ℤ n.c;
  d = m.c *ℤ n.b +ℤ m.d *ℤ n.d;
  e = m.e *ℤ n.a +ℤ m.f *ℤ n.c +ℤ n.e;
  f = m.e *ℤ n.b +ℤ m.f *ℤ n.d +ℤ n.f;
}

-- The x of the row (x, y, 1) times a matrix.
abbrev pub across_by : Matrix → ℤ → ℤ → ℤ
across_by m x y = m.a *ℤ x +ℤ m.c *ℤ y +ℤ m.e

-- The y of the row (x, y, 1) times a matrix.
abbrev pub up_by : Matrix → ℤ → ℤ → ℤ
up_by m x y = m.b *ℤ x +ℤ m.d *ℤ y +ℤ m.f

-- The cosine of t quarter turns: 1, 0, −1, 0.
abbrev pub cosine : ℕ → ℤ
cosine t = by_quarter t (pos 1) (pos 0) (negsuc 0) (pos 0)

-- The sine of t quarter turns: 0, 1, 0, −1.
abbrev pub sine : ℕ → ℤ
sine t = by_quarter t (pos 0) (pos 1) (pos 0) (negsuc 0)

-- The matrix of a turn and then an offset: [cos, sin, −sin, cos, x, y].
abbrev pub matrix_at : ℕ → ℤ → ℤ → Matrix
matrix_at t x y = record { a = cosine t; b = sine t; c = neg_ℤ (sine t); d = cosine t; e = x; f = y }

-- The matrix of axes.
abbrev pub matrix_of : Axes → Matrix
matrix_of at = matrix_at at.turn at.x at.y

-- The matrix of a shift: [1, 0, 0, 1, a, b].
abbrev pub shift_by : ℤ → ℤ → Matrix
shift_by a b = record { a = pos 1; b = pos 0; c = pos 0; d = pos 1; e = a; f = b }

-- The matrix of k quarter turns.
abbrev pub turn_by : ℕ → Matrix
turn_by k = matrix_at k (pos 0) (pos 0)

-- The matrix after is a matrix times the one before.
abbrev pub Multiplied : Matrix → Axes → Axes → Type 0
Multiplied m before after = matrix_of after ≡ times m (matrix_of before)

-- A point stands at ten times its operands times the matrix of the axes.
pub record PointStands (at : Axes) (a b : ℤ) (drawn : Drawn) : Type 0 where
  pub across : drawn.x ≡ pos 10 *ℤ across_by (matrix_of at) a b
  pub up : drawn.y ≡ pos 10 *ℤ up_by (matrix_of at) a b

-- The matrix of axes with its offset in tenths.
abbrev pub tenths_of : Axes → Matrix
tenths_of at = matrix_at at.turn (pos 10 *ℤ at.x) (pos 10 *ℤ at.y)

-- A glyph stands at the start of the line and the advance times the matrix of the axes, all in tenths.
pub record GlyphStands (n : Numbers) (drawn : Drawn) : Type 0 where
  pub across : drawn.x ≡ across_by (tenths_of n.axes) (pos 10 *ℤ n.line.x +ℤ pos n.line.advance) (pos 10 *ℤ n.line.y)
  pub up : drawn.y ≡ up_by (tenths_of n.axes) (pos 10 *ℤ n.line.x +ℤ pos n.line.advance) (pos 10 *ℤ n.line.y)

-- After each number of glyphs, the advance is so many times 600 thousandths of the size: 6 × size tenths each.
abbrev pub EvenlySpaced : ℕ → Numbers → Type 0
EvenlySpaced s n = (xs : List ℕ) → (glyphs_set n xs).line.advance ≡ 6 * s * length xs
