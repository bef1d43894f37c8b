-- Numbered blocks of bytes one after another, and where each starts.
use Rattle.std.specs.Prelude.{ℕ, ◌+◌, cond, List, [], ◌∷◌, ◌++◌, length, Some, None, Option, ◌==◌}

-- A number and the bytes that stand under it, as those of an object of a file.
pub record Block : Type 0 where
  pub number : ℕ
  pub bytes : List ℕ

-- The bytes of all blocks, one after another.
unfoldable pub whole : List Block → List ℕ
whole [] = []
whole (b ∷ bs) = b.bytes ++ whole bs

-- Where the block n starts, if the first of the blocks starts at `from`; 0 if there is none.
unfoldable pub offset_of : ℕ → ℕ → List Block → ℕ
offset_of n from [] = 0
offset_of n from (b ∷ bs) = cond (b.number == n) from (offset_of n (from + length b.bytes) bs)

-- The bytes of the block n, if there is one.
unfoldable pub bytes_of : ℕ → List Block → Option (List ℕ)
bytes_of n [] = None
bytes_of n (b ∷ bs) = cond (b.number == n) (Some b.bytes) (bytes_of n bs)
