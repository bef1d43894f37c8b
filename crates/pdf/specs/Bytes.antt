-- Bytes by kind, and the longest run of one kind at the front of a list.
use Rattle.std.specs.Prelude.{ℕ, Bool, true, false, not, ◌&&◌, ◌||◌, List, [], ◌∷◌, codes, ◌==◌, nat_le}

-- c is one of these bytes.
abbrev pub among : List ℕ → ℕ → Bool
among [] c = false
among (x ∷ xs) c = c == x || among xs c

-- White space: NUL, tab, LF, form feed, CR and space.
abbrev pub white : ℕ → Bool
white c = among (0 ∷ 9 ∷ 10 ∷ 12 ∷ 13 ∷ 32 ∷ []) c

-- The bytes that end a comment: LF and CR.
abbrev pub line_end : ℕ → Bool
line_end c = among (10 ∷ 13 ∷ []) c

-- The bytes that stand for themselves, or begin or end something else.
abbrev pub delimiter : ℕ → Bool
delimiter c = among (codes "()<>[]{}/%") c

-- All other bytes are regular.
abbrev pub regular : ℕ → Bool
regular c = not (white c || delimiter c)

-- A digit from 0 to 9.
abbrev pub digit : ℕ → Bool
digit c = nat_le 48 c && nat_le c 57

-- A digit from 0 to 7.
abbrev pub octal_digit : ℕ → Bool
octal_digit c = nat_le 48 c && nat_le c 55

-- A byte that a name may have: regular, from 33 to 126, and not #.
abbrev pub name_byte : ℕ → Bool
name_byte c = regular c && (nat_le 33 c && (nat_le c 126 && not (c == 35)))

-- Each byte of the list passes the test.
abbrev pub each : (ℕ → Bool) → List ℕ → Bool
each p [] = true
each p (c ∷ cs) = p c && each p cs

-- The longest front of which each byte passes the test.
abbrev pub front : (ℕ → Bool) → List ℕ → List ℕ
front p [] = []
front p (c ∷ cs) = elim (p c) [ true ↦ c ∷ front p cs | false ↦ [] ]

-- What follows the longest front of which each byte passes the test.
abbrev pub past : (ℕ → Bool) → List ℕ → List ℕ
past p [] = []
past p (c ∷ cs) = elim (p c) [ true ↦ past p cs | false ↦ c ∷ cs ]

-- A run of bytes that pass the test ends where these bytes begin: there are none, or the first does not pass.
abbrev pub ends : (ℕ → Bool) → List ℕ → Bool
ends p [] = true
ends p (c ∷ cs) = not (p c)

-- A run of regular bytes ends where these bytes begin.
abbrev pub stops : List ℕ → Bool
stops bs = ends regular bs
