-- The laws of words: decoding and encoding undo each other, and what is refused, in the words of the format.
use Rattle.std.specs.Prelude.{◌≡◌, ℕ, ◌<◌, ◌≤◌, ◌↔◌, Some, None, Ok, Err, Option, Result, ◌≢◌}
use Rattle.page.specs.declared.types.Word.{Word}
use Rattle.page.specs.declared.types.Refusal.{Refusal}
use Rattle.page.specs.declared.types.Refusal.TheVariants.{Kind, Payload}
use Rattle.page.specs.Numbers.{highest_kind, highest_type, kind_number, word_kind}
use Rattle.page.specs.Fields.{kind_of, payload_of, unsigned_a, unsigned_b, show_count, first_byte, second_byte, third_byte}
use Rattle.page.specs.Decoded.{decoded}
use Rattle.page.specs.Encoded.{encoded}

-- Whatever word the bits n were answered to be, n are that word's bits.
abbrev pub DecodeUndone : ℕ → Result Word Refusal → Type 0
DecodeUndone n answer = (w : Word) → answer ≡ Ok w → encoded w ≡ Some n

-- Whatever word the bits n were answered to be, its kind is the kind of n.
abbrev pub KindRead : ℕ → Result Word Refusal → Type 0
KindRead n answer = (w : Word) → answer ≡ Ok w → kind_of n ≡ kind_number (word_kind w)

-- Whatever bits were answered for the word w, they say w.
abbrev pub EncodeUndone : Word → Option ℕ → Type 0
EncodeUndone w answer = (n : ℕ) → answer ≡ Some n → decoded n ≡ Ok w

-- No bits were answered for the word w exactly if no bits say w.
abbrev pub EncodeRefused : Word → Option ℕ → Type 0
EncodeRefused w answer = (answer ≡ None) ↔ ((n : ℕ) → decoded n ≢ Ok w)

-- A number from the lowest to the highest, both included.
abbrev pub Between : ℕ → ℕ → ℕ → Type 0
Between lowest n highest = (lowest ≤ n) × (n ≤ highest)

-- A byte that is a code where it is counted, and 0 where it is not.
pub record Counted (place count byte : ℕ) : Type 0 where
  pub code : place ≤ count → Between 32 byte 126
  pub rest : count < place → byte ≡ 0

-- The ranges of payloads, kind by kind. The kinds 3, 5, 7, 8 and 11 take every payload.
pub record InRange (kind payload : ℕ) : Type 0 where
  pub page : kind ≡ 0 → Between 3 (unsigned_a payload) 14400 × Between 3 (unsigned_b payload) 14400
  pub close : kind ≡ 1 → payload ≡ 0
  pub element : kind ≡ 2 → unsigned_b payload ≤ highest_type
  pub save : kind ≡ 4 → payload ≡ 0
  pub turn : kind ≡ 6 → payload ≤ 3
  pub paint : kind ≡ 9 → payload ≤ 3
  pub text : kind ≡ 10 → Between 1 payload 144
  pub count : kind ≡ 12 → Between 1 (show_count payload) 3
  pub first : kind ≡ 12 → Counted 1 (show_count payload) (first_byte payload)
  pub second : kind ≡ 12 → Counted 2 (show_count payload) (second_byte payload)
  pub third : kind ≡ 12 → Counted 3 (show_count payload) (third_byte payload)

-- The bits n are refused for their kind exactly if it is above the highest, and for their payload exactly if
-- the kind is not above it and the payload is not in that kind's range.
pub record Refusals (n : ℕ) (answer : Result Word Refusal) : Type 0 where
  pub by_kind : (answer ≡ Err Kind) ↔ (highest_kind < kind_of n)
  pub by_payload : (answer ≡ Err Payload) ↔ ((kind_of n ≤ highest_kind) × (¬ InRange (kind_of n) (payload_of n)))
