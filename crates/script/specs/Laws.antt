-- The laws of reading, in the words of one who writes a script.
use Rattle.std.specs.Prelude.{◌≡◌, ℕ, ◌^◌, ◌<◌, true, false, List, [], ◌∷◌, ◌++◌, length}
use Rattle.std.specs.List.{flat_map, AllByRecursion}
use Rattle.script.specs.Digits.{hex_of}
use Rattle.script.specs.Tokens.{word_in}
use Rattle.script.specs.Readings.{white, ends_comment, in_token, step_by, next_in, onward, all_read, reading_of}

-- One word as a line: 0x, eight digits and LF.
abbrev pub line_of : ℕ → List ℕ
line_of w = (48 ∷ 120 ∷ hex_of w) ++ 10 ∷ []

-- Words as lines, one after another.
abbrev pub written : List ℕ → List ℕ
written ws = flat_map line_of ws

-- What is written is read back.
abbrev pub WrittenIsRead : Type 0
WrittenIsRead = (ws : List ℕ) → AllByRecursion (λ w. w < 2 ^ 32) ws → reading_of (written ws) ≡ all_read ws

-- A text is read step by step, to its end: the steps that are allowed never run out.
abbrev pub StepByStep : Type 0
StepByStep = (text : List ℕ) → reading_of text ≡ onward reading_of (next_in text)

-- White space in front does not matter.
abbrev pub WhiteSpaceIsSkipped : Type 0
WhiteSpaceIsSkipped = (b : ℕ) (text : List ℕ) → white b ≡ true → reading_of (b ∷ text) ≡ reading_of text

-- A comment ends where the text does, or at a byte that ends a comment.
abbrev pub CommentOver : List ℕ → Type 0
CommentOver [] = Unit {0}
CommentOver (b ∷ bs) = ends_comment b ≡ true

-- A comment in front does not matter, whatever stands in it.
abbrev pub CommentsAreSkipped : Type 0
CommentsAreSkipped =
    (comment rest : List ℕ) → AllByRecursion (λ c. ends_comment c ≡ false) comment → CommentOver rest
    → reading_of (35 ∷ comment ++ rest) ≡ reading_of rest

-- A token ends where the text does, or at a byte that belongs to no token.
abbrev pub TokenOver : List ℕ → Type 0
TokenOver [] = Unit {0}
TokenOver (b ∷ bs) = in_token b ≡ false

-- A token in front is the word that it writes, or stops the reading where it begins.
abbrev pub TokensAreWords : Type 0
TokensAreWords =
    (token rest : List ℕ) → 0 < length token → AllByRecursion (λ c. in_token c ≡ true) token → TokenOver rest
    → reading_of (token ++ rest) ≡ onward reading_of (step_by (word_in token) (token ++ rest) rest)

-- These tell what any text reads as: it is empty, or begins with white space, a comment or a token.
pub record ReadingIsLawful : Type 0 where
  pub empty : reading_of [] ≡ all_read []
  pub white_space : WhiteSpaceIsSkipped
  pub comments : CommentsAreSkipped
  pub tokens : TokensAreWords
  pub stepwise : StepByStep
