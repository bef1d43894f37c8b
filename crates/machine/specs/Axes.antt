-- Quarter turns, shifts and ranges of places.
use Rattle.std.specs.Prelude.{ℕ, ◌+◌, ◌%◌, Bool, cond, ◌&&◌, ℤ, pos, negsuc, ◌+ℤ◌, neg_ℤ, ◌==◌, int_le}
use Rattle.machine.specs.declared.types.Axes.{Axes}

-- One of four, by 0, 1, 2 or 3.
abbrev pub one_of : {X : Type 0} → ℕ → X → X → X → X → X
one_of q at0 at1 at2 at3 = cond (q == 0) at0 (cond (q == 1) at1 (cond (q == 2) at2 at3))

-- One of four, by quarters of a whole turn; four quarters are none.
abbrev pub by_quarter : {X : Type 0} → ℕ → X → X → X → X → X
by_quarter t at0 at1 at2 at3 = one_of (t % 4) at0 at1 at2 at3

-- The x of the place (x, y) after t quarter turns: x, −y, −x, y.
abbrev pub rotated_x : ℕ → ℤ → ℤ → ℤ
rotated_x t x y = by_quarter t x (neg_ℤ y) (neg_ℤ x) y

-- The y of the place (x, y) after t quarter turns: y, x, −y, −x.
abbrev pub rotated_y : ℕ → ℤ → ℤ → ℤ
rotated_y t x y = by_quarter t y x (neg_ℤ y) (neg_ℤ x)

-- The axes at the start of a page.
abbrev pub first_axes : Axes
first_axes = record { turn = 0; x = pos 0; y = pos 0 }

-- The axes with the offset moved by (a, b), as the axes are turned.
abbrev pub shifted : Axes → ℤ → ℤ → Axes
shifted at a b = record {
  turn = at.turn;
  x = at.x +ℤ rotated_x at.turn a b;
  y = at.y +ℤ rotated_y at.turn a b;
}

-- The axes turned by so many quarters more.
abbrev pub turned : Axes → ℕ → Axes
turned at k = record { turn = (at.turn + k) % 4; x = at.x; y = at.y }

-- Whether a number is from −14,400 to 14,400.
abbrev pub within : ℤ → Bool
within z = int_le (negsuc 14399) z && int_le z (pos 14400)

-- Whether the offset is within its range.
abbrev pub axes_inside : Axes → Bool
axes_inside at = within at.x && within at.y
