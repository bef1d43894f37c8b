-- Where a byte of a text stands: its line and its column, both from 1.
use Rattle.std.specs.Prelude.{ℕ, ◌+◌, Bool, not, List, take, count_by, ◌==◌}
use Rattle.std.specs.List.{suffix_len}
use Rattle.script.specs.declared.place.Position.{Position}

-- LF ends a line, and no other byte does.
abbrev pub ends_line : ℕ → Bool
ends_line b = b == 10

-- Any other byte stands in the line of the byte after it.
abbrev pub inside_line : ℕ → Bool
inside_line b = not (ends_line b)

-- One more than the line ends before the place.
abbrev pub line_at : List ℕ → ℕ → ℕ
line_at text at = 1 + count_by ends_line (take at text)

-- One more than the bytes before the place that stand in its line.
abbrev pub column_at : List ℕ → ℕ → ℕ
column_at text at = 1 + suffix_len inside_line (take at text)

-- The two together, past the text's end as at its end.
abbrev pub position_of : List ℕ → ℕ → Position
position_of text at = record { line = line_at text at; column = column_at text at }
