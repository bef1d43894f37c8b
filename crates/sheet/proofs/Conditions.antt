-- A word is refused by the first condition that holds.
use Rattle.std.proofs.Common.{◌≡◌, ℕ, ◌<◌, Bool, true, false, length, Some, None, Ok, Err, Option, Result, refl, ⊎_elim, arith}
use Rattle.std.proofs.lemmas.Bool.{cases_lt, lt-leb, leb-false}
use Rattle.std.proofs.lemmas.Bool.Decides.{nat_tests}
use Rattle.std.specs.Option.{option_map}
use Rattle.page.specs.declared.types.Refusal.{Refusal}
use Rattle.page.specs.declared.types.Refusal.TheVariants as refusal
use Rattle.page.specs.declared.types.Word.{Word}
use Rattle.page.specs.Numbers.{highest_kind}
use Rattle.page.specs.Fields.{kind_of}
use Rattle.page.specs.Decoded.{decoded}
use Rattle.page.specs.Laws.{Refusals}
use Rattle.page.proofs.Ways.{refusals}
use Rattle.sheet.specs.declared.refusals.WordRefusal.{WordRefusal}
use Rattle.sheet.specs.declared.refusals.WordRefusal.TheVariants.{NotTaken, NoElement, Limit, Outside, NoRoom}
use Rattle.sheet.specs.Refusals.{word_number}
use Rattle.sheet.specs.Run.{judged, is_taken, is_known, is_within, is_inside, fits}
use Rattle.sheet.specs.Sheet.{Sheet, sheet_after}
use Rattle.sheet.proofs.Limits.{passed_is_beyond, beyond_passes_one}
use Rattle.sheet.proofs.Places.{moved_is_outside, outside_moves_one}
use Rattle.sheet.specs.Conditions.{element_named, Condition, refused_by, RefusedByTheFirstCondition, ObeyedWithoutCondition}
use Rattle.sheet.specs.Conditions.Condition.{no_such_kind, payload_outside, not_taken, no_such_element, limit_passed, place_outside, room_below_reserve}

-- the test of the number m fails, of the five that a word must pass
data Failed (m : ℕ) (t k l i f : Bool) : Type 0 where
  untaken : m ≡ 12 → t ≡ false → Failed m t k l i f
  unknown : m ≡ 13 → k ≡ false → Failed m t k l i f
  beyond : m ≡ 14 → l ≡ false → Failed m t k l i f
  outside : m ≡ 15 → i ≡ false → Failed m t k l i f
  unfit : m ≡ 16 → f ≡ false → Failed m t k l i f

-- a word fails the test of the number m
abbrev Fails : ℕ → ℕ → Sheet → Word → Type 0
Fails m room s x = Failed m (is_taken s x) (is_known s x) (is_within s x) (is_inside s x) (fits room (sheet_after s x))

-- an element is unknown exactly if it is above the last
above_is_unknown : (s : Sheet) (x : Word) → length s.drawing.tree.elements < element_named x → is_known s x ≡ false
above_is_unknown s x h = grind (arith, nat_tests)

unknown_is_above : (s : Sheet) (x : Word) → is_known s x ≡ false → length s.drawing.tree.elements < element_named x
unknown_is_above s x t = grind (arith, nat_tests)

-- what is said of a word of these bits holds of the one that they say
of_word : {P : Word → Type 0} (w : ℕ) (x : Word) → decoded w ≡ Ok x → (y : Word) × (decoded w ≡ Ok y) × P y → P x
of_word w x d (y, d', h) = let same : y ≡ x = cc in rw same at h

-- a condition holds of the bits of a word exactly if the word fails its test
fails : (m room : ℕ) (s : Sheet) (w : ℕ) (x : Word) → decoded w ≡ Ok x → Refusals w (Ok x) → Condition m room s w → Fails m room s x
fails m room s w x d r (no_such_kind e h) = cc (r.by_kind.1 h)
fails m room s w x d r (payload_outside e h) = ⊎_elim (λ high. cc (r.by_kind.1 high)) (λ low. cc (r.by_payload.1 (low, h))) (cases_lt highest_kind (kind_of w))
fails m room s w x d r (not_taken e h) = untaken e (of_word w x d h)
fails m room s w x d r (no_such_element e h) = unknown e (above_is_unknown s x (of_word w x d h))
fails m room s w x d r (limit_passed e h) = beyond e (passed_is_beyond s x (of_word w x d h))
fails m room s w x d r (place_outside e h) = outside e (moved_is_outside s x (of_word w x d h))
fails m room s w x d r (room_below_reserve e h) = unfit e (lt-leb _ room (of_word w x d h))

holds : (m room : ℕ) (s : Sheet) (w : ℕ) (x : Word) → decoded w ≡ Ok x → Fails m room s x → Condition m room s w
holds m room s w x d (untaken e t) = not_taken e (x, d, t)
holds m room s w x d (unknown e t) = no_such_element e (x, d, unknown_is_above s x t)
holds m room s w x d (beyond e t) = limit_passed e (x, d, beyond_passes_one s x t)
holds m room s w x d (outside e t) = place_outside e (x, d, outside_moves_one s x t)
holds m room s w x d (unfit e t) = room_below_reserve e (x, d, leb-false _ room t)

-- What an answer says of the numbers for which something holds: the first is answered, or there is none.
abbrev IsFirst : (ℕ → Type 0) → Option ℕ → Type 0
IsFirst P None = (m : ℕ) → P m → ⊥
IsFirst P (Some n) = P n × ((m : ℕ) → m < n → P m → ⊥)

is_first-like : (P Q : ℕ → Type 0) → ((m : ℕ) → P m → Q m) → ((m : ℕ) → Q m → P m) → (o : Option ℕ) → IsFirst P o → IsFirst Q o
is_first-like P Q to from o a = grind (arith, to, from)

-- why a word is refused, by the five tests
abbrev by_tests : Bool → Bool → Bool → Bool → Bool → Option WordRefusal
by_tests t k l i f =
    elim t [
      | false ↦ Some NotTaken
      | true ↦
          elim k [
            | false ↦ Some NoElement
            | true ↦
                elim l [
                  | false ↦ Some Limit
                  | true ↦
                      elim i [
                        | false ↦ Some Outside
                        | true ↦
                            elim f [ false ↦ Some NoRoom | true ↦ None ]
                      ]
                ]
          ]
    ]

first_failed : (t k l i f : Bool) → IsFirst (λ m. Failed m t k l i f) (option_map word_number (by_tests t k l i f))
first_failed t k l i f = grind (arith, untaken, unknown, beyond, outside, unfit)

-- only the kind's condition has a number below the payload's, and none has one below the kind's
answered_by_bits : (room : ℕ) (s : Sheet) (w : ℕ) (r : Result Word Refusal) → decoded w ≡ r → Refusals w r → IsFirst (λ m. Condition m room s w) (option_map word_number (judged room s r))
answered_by_bits room s w (Err refusal.Kind) d r = (no_such_kind refl (r.by_kind.0 refl), λ m low c. grind arith)
answered_by_bits room s w (Err refusal.Payload) d r = let h = r.by_payload.0 refl in (payload_outside refl h.1, λ m low c. grind arith)
answered_by_bits room s w (Ok x) d r = is_first-like (λ m. Fails m room s x) (λ m. Condition m room s w) (λ m. holds m room s w x d) (λ m. fails m room s w x d r) _ (first_failed (is_taken s x) (is_known s x) (is_within s x) (is_inside s x) (fits room (sheet_after s x)))

answered : (room : ℕ) (s : Sheet) (w : ℕ) → IsFirst (λ m. Condition m room s w) (refused_by room s w)
answered room s w = answered_by_bits room s w (decoded w) refl (refusals w)

-- the first is one
first_is_one : (P : ℕ → Type 0) (n : ℕ) (o : Option ℕ) → IsFirst P o → P n → ((m : ℕ) → m < n → P m → ⊥) → o ≡ Some n
first_is_one P n o a h low = grind arith

first_is_none : (P : ℕ → Type 0) (o : Option ℕ) → IsFirst P o → ((n : ℕ) → P n → ⊥) → o ≡ None
first_is_none P o a none = grind arith

pub refused_by_the_first : RefusedByTheFirstCondition
refused_by_the_first room s w n = (λ e. rw e at (answered room s w), λ h. first_is_one (λ m. Condition m room s w) n (refused_by room s w) (answered room s w) h.0 h.1)

pub obeyed_without : ObeyedWithoutCondition
obeyed_without room s w = (λ e. rw e at (answered room s w), first_is_none (λ m. Condition m room s w) (refused_by room s w) (answered room s w))
