-- The laws of decoding, by the three ways that it can go, and what cannot be encoded.
use Rattle.std.proofs.Common.{◌≡◌, ℕ, ◌<◌, ◌≤◌, Some, None, Ok, Err, Option, Result, sym, refl, ap, ◌∙◌, ⊎_elim, arith}
use Rattle.std.proofs.lemmas.Bool.{cases_lt}
use Rattle.std.specs.Option.{ok_or}
use Rattle.page.specs.declared.types.Kind.{Kind}
use Rattle.page.specs.declared.types.Word.{Word}
use Rattle.page.specs.declared.types.Refusal.{Refusal}
use Rattle.page.specs.declared.types.Refusal.TheVariants as refusal
use Rattle.page.specs.Numbers.{highest_kind, kind_number, kind_numbered, word_kind}
use Rattle.page.specs.Fields.{kind_of, payload_of}
use Rattle.page.specs.Decoded.{word_of, decoded_as, decoded}
use Rattle.page.specs.Encoded.{encoded}
use Rattle.page.specs.Laws.{DecodeUndone, KindRead, EncodeRefused, InRange, Refusals}
use Rattle.page.proofs.Tables.{number_kind_numbered, kind_at_low, kind_at_high}
use Rattle.page.proofs.Undone.{decoded_back, encoded_back, read_kind}
use Rattle.page.proofs.Refused.{in_range, read_in_range}

-- The ways that n can be decoded: its kind is too high, its payload is out of range, or it says a word.
data Way (n : ℕ) : Type 0 where
  no_kind : highest_kind < kind_of n → decoded n ≡ Err refusal.Kind → Way n
  no_payload : kind_of n ≤ highest_kind → (¬ InRange (kind_of n) (payload_of n)) → decoded n ≡ Err refusal.Payload → Way n
  says : (w : Word) → kind_of n ≤ highest_kind → InRange (kind_of n) (payload_of n) → encoded w ≡ Some n → kind_of n ≡ kind_number (word_kind w) → decoded n ≡ Ok w → Way n

-- the way of a kind, by what is read at it
way_read : (k : Kind) (n : ℕ) → kind_of n ≤ highest_kind → kind_of n ≡ kind_number k → decoded n ≡ ok_or (word_of k n) refusal.Payload → (o : Option Word) → word_of k n ≡ o → Way n
way_read k n low e d None r = no_payload low (λ h. read_in_range k n e h r) (d ∙ ap (λ o. ok_or o refusal.Payload) r)
way_read k n low e d (Some w) r = says w low (in_range k n w e r) (encoded_back k n w e r) (e ∙ ap kind_number (sym (read_kind k n w r))) (d ∙ ap (λ o. ok_or o refusal.Payload) r)

way : (n : ℕ) → Way n
way n =
    ⊎_elim
    (λ high. no_kind high (ap (λ o. decoded_as o n) (kind_at_high (kind_of n) high)))
    (λ low.
    let k : Kind = kind_numbered (kind_of n) in
    way_read k n low (number_kind_numbered (kind_of n) low) (ap (λ o. decoded_as o n) (kind_at_low (kind_of n) low)) (word_of k n) refl)
    (cases_lt highest_kind (kind_of n))

-- The laws of decoding, of an answer.
pub record Lawful (n : ℕ) (answer : Result Word Refusal) : Type 0 where
  pub undone : DecodeUndone n answer
  pub kind : KindRead n answer
  pub refusals : Refusals n answer

lawful_by : (n : ℕ) → Way n → Lawful n (decoded n)
lawful_by n (no_kind high d) = search arith
lawful_by n (no_payload low out d) = search arith
lawful_by n (says v low within b kind d) = search arith

-- they hold of what n says
pub lawful : (n : ℕ) → Lawful n (decoded n)
lawful n = lawful_by n (way n)

-- what decoding refuses
pub refusals : (n : ℕ) → Refusals n (decoded n)
refusals n = (lawful n).refusals

-- a word has no bits exactly if no bits say it
pub encode_refused : (w : Word) (o : Option ℕ) → o ≡ encoded w → EncodeRefused w o
encode_refused w None e = (λ _ n d. let b = (lawful n).undone w d in search arith, λ _. refl)
encode_refused w (Some n) e = let back = decoded_back w n (sym e) in search arith
