-- The lines of a file outside its objects: what stands where they are kept byte for byte.
use Rattle.std.specs.Prelude.{ℕ, true, false, List, [], ◌∷◌, Some, None, Option, ◌==◌}
use Rattle.pdf.specs.Bytes.{digit, front, past}
use Rattle.pdf.specs.Numbers.{natural}

-- What follows where something was read.
abbrev pub bind : {A B : Type 0} → Option A → (A → Option B) → Option B
bind None f = None
bind (Some a) f = f a

-- What follows these bytes, if they stand in front.
abbrev pub after : List ℕ → List ℕ → Option (List ℕ)
after [] bs = Some bs
after (x ∷ xs) [] = None
after (x ∷ xs) (b ∷ bs) = elim (b == x) [ true ↦ after xs bs | false ↦ None ]

-- The bytes without this one in front.
abbrev pub without : ℕ → List ℕ → List ℕ
without x [] = []
without x (b ∷ bs) = elim (b == x) [ true ↦ bs | false ↦ b ∷ bs ]

-- What follows a line end: LF, CR or CR LF.
abbrev pub after_line_end : List ℕ → Option (List ℕ)
after_line_end [] = None
after_line_end (b ∷ bs) = elim (b == 10) [ true ↦ Some bs | false ↦ elim (b == 13) [ true ↦ Some (without 10 bs) | false ↦ None ] ]

-- The same of bytes in reverse: what stands before a line end.
abbrev pub before_line_end : List ℕ → Option (List ℕ)
before_line_end [] = None
before_line_end (b ∷ bs) = elim (b == 10) [ true ↦ Some (without 13 bs) | false ↦ elim (b == 13) [ true ↦ Some bs | false ↦ None ] ]

-- What is left, or the same bytes if nothing was read.
abbrev pub or_same : List ℕ → Option (List ℕ) → List ℕ
or_same bs None = bs
or_same bs (Some cs) = cs

-- What follows a line of this text.
abbrev pub after_line : List ℕ → List ℕ → Option (List ℕ)
after_line text bs = bind (after text bs) after_line_end

-- The number of digits in shortest decimal: with no zero in front of another digit.
abbrev pub shortest : List ℕ → Option ℕ
shortest [] = None
shortest (c ∷ []) = natural (c ∷ [])
shortest (c ∷ d ∷ ds) = elim (c == 48) [ true ↦ None | false ↦ natural (c ∷ d ∷ ds) ]

-- A number in shortest decimal, and what follows its digits.
abbrev pub shortest_number : List ℕ → Option (ℕ × List ℕ)
shortest_number bs = bind (shortest (front digit bs)) λ n. Some (n, past digit bs)
