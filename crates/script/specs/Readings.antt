-- What a script's text reads as: its words one after another, up to its end or to the first that
-- cannot be read. Definitions work on the bytes that are left, and hold no places.
use Rattle.std.specs.Prelude.{ℕ, zero, suc, Bool, true, false, not, ◌&&◌, ◌||◌, List, [], ◌∷◌, length, take, drop, Some, None, Ok, Err, Option, Result, ◌==◌, nat_le}
use Rattle.std.specs.List.{prefix_len}
use Rattle.script.specs.Tokens.{word_in}
use Rattle.script.specs.declared.token.Reason.{Reason}

-- White space: tab, LF, vertical tab, form feed, CR and space.
abbrev pub white : ℕ → Bool
white b = (nat_le 9 b && nat_le b 13) || b == 32

-- The sign # opens a comment.
abbrev pub opens_comment : ℕ → Bool
opens_comment b = b == 35

-- LF or CR ends it.
abbrev pub ends_comment : ℕ → Bool
ends_comment b = b == 10 || b == 13

-- Any other byte belongs to a token.
abbrev pub in_token : ℕ → Bool
in_token b = not (white b || opens_comment b)

-- What follows the white space and the comments in front; the flag tells that a comment is open.
abbrev pub skip_from : Bool → List ℕ → List ℕ
skip_from comment [] = []
skip_from true (b ∷ bs) = skip_from (not (ends_comment b)) bs
skip_from false (b ∷ bs) =
    elim (white b) [ true ↦ skip_from false bs | false ↦ elim (opens_comment b) [ true ↦ skip_from true bs | false ↦ b ∷ bs ] ]

-- What stands first in a text: nothing more; a word, with the text after it; or a token that cannot
-- be read, with the text from the token on.
pub data Step : Type 0 where
  finished : Step
  word : ℕ → List ℕ → Step
  stuck : Reason → List ℕ → Step

-- The step at a token, from what the token writes, the text from it on and the text after it.
abbrev pub step_by : Result ℕ Reason → List ℕ → List ℕ → Step
step_by (Ok w) here after = word w after
step_by (Err reason) here after = stuck reason here

-- The step at a text with nothing to skip: the token is the longest front of bytes that belong to one.
abbrev pub token_first : List ℕ → Step
token_first [] = finished
token_first (b ∷ bs) =
    let n = prefix_len in_token (b ∷ bs) in
    step_by (word_in (take n (b ∷ bs))) (b ∷ bs) (drop n (b ∷ bs))

-- The step at any text.
unfoldable pub next_in : List ℕ → Step
next_in bs = token_first (skip_from false bs)

-- The text that is left after a step.
abbrev pub left_after : Step → List ℕ
left_after finished = []
left_after (word w rest) = rest
left_after (stuck reason rest) = rest

-- A token that cannot be read: why, and the text from the token on.
pub record Halt : Type 0 where
  pub reason : Reason
  pub rest : List ℕ

-- The words in front, and none or what stopped the reading.
pub record Reading : Type 0 where
  pub words : List ℕ
  pub halt : Option Halt

-- Nothing stopped the reading.
abbrev pub all_read : List ℕ → Reading
all_read ws = record { words = ws; halt = None }

-- One word more in front.
abbrev pub before : ℕ → Reading → Reading
before w r = record { words = w ∷ r.words; halt = r.halt }

-- A step, and then what the rest reads as.
abbrev pub onward : (List ℕ → Reading) → Step → Reading
onward reading finished = all_read []
onward reading (word w rest) = before w (reading rest)
onward reading (stuck why rest) = record { words = []; halt = Some (record { reason = why; rest = rest }) }

-- So many steps at most. Each word takes a byte, so a text's length and one are enough: the law
-- StepByStep says so.
unfoldable pub read_within : ℕ → List ℕ → Reading
read_within zero bs = all_read []
read_within (suc n) bs = onward (read_within n) (next_in bs)

-- The reading of a whole text.
unfoldable pub reading_of : List ℕ → Reading
reading_of text = read_within (suc (length text)) text
