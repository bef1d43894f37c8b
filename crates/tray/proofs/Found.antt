-- The first record that passes a test.
use Rattle.std.proofs.Common.{◌≡◌, ℕ, zero, suc, Bool, true, false, List, [], ◌∷◌, length, Some, None, Option, find, sym, ap, subst, ◌∙◌, ⊎_elim, arith}
use Rattle.std.proofs.lemmas.Bool.{cond-true, cond-false, eq-eqb, eqb-true, cases_Bool, both_ways}
use Rattle.std.proofs.lemmas.Iterator.{YieldsList, YieldsList-from_slice}
use Rattle.std.proofs.lemmas.Iterator.Consumers.{YieldsList-from_shown}
use Rattle.std.proofs.lemmas.Iterator.Search.{find_from_yields_List}
use Rattle.std.specs.Bool.{⊤}
use Rattle.std.specs.Fn.{CalledAt}
use Rattle.std.specs.Iterator.{YieldsThen}
use Rattle.std.specs.Iterator.Runs.{Run}
use Rattle.std.specs.List.{FoldsTo}
use Rattle.std.specs.Option.{MatchOption, option_map}
use Rattle.std.specs.Iterator.Adapters.{rev_source, rev_steps}
use Rattle.std.specs.Slice.Iter.{iter_rest, iter_steps}
use Rattle.tray.specs.Finds.{with_key, NoneBefore, Earliest, FirstWith}
use denote.Param.Members.{Mut}
use denote.Ref.{Bor}

-- the first record that passes the test is the earliest that is sought, where the test tells what is sought
module _ {T : Type 0} (test : T → Bool) (Sought : T → Type 0) (tells : (x : T) → test x ≡ true → Sought x) (shows : (x : T) → Sought x → test x ≡ true) where
  none_more : (x : T) (xs : List T) (n : ℕ) → test x ≡ false → NoneBefore Sought xs n → NoneBefore Sought (x ∷ xs) (suc n)
  none_more x xs n e before zero y lt at s = both_ways (test x) e (shows x (let same : y ≡ x = cc in rw same at s))
  none_more x xs n e before (suc i) y lt at s = before i y (omega arith) at s

  earliest : (xs : List T) (x : T) → find test xs ≡ Some x → Earliest Sought xs x
  earliest [] x e = absurd (cc)
  earliest (y ∷ ys) x e =
      ⊎_elim
      (λ passes.
      let is : Some y ≡ Some x = sym (cond-true _ _ _ passes) ∙ e in
      let same : y ≡ x = cc in
      record { sought = tells x (rw same at passes); place = 0; stands = is; before = λ i z lt. absurd (omega arith) })
      (λ fails.
      let rest = earliest ys x (sym (cond-false _ _ _ fails) ∙ e) in
      record { sought = rest.sought; place = suc rest.place; stands = rest.stands; before = none_more y ys rest.place fails rest.before })
      (cases_Bool (test y))

  missed : (xs : List T) → find test xs ≡ None → NoneBefore Sought xs (length xs)
  missed [] e = λ i y lt. absurd (omega arith)
  missed (x ∷ xs) e =
      ⊎_elim
      (λ passes. let is : Some x ≡ None = sym (cond-true _ _ _ passes) ∙ e in absurd (cc))
      (λ fails. none_more x xs (length xs) fails (missed xs (sym (cond-false _ _ _ fails) ∙ e)))
      (cases_Bool (test x))

  pub first_with_lem : (xs : List T) (r : Option T) → r ≡ find test xs → FirstWith Sought xs r
  first_with_lem xs r e = record { found = λ x is. earliest xs x (sym e ∙ is); missing = λ is. missed xs (sym e ∙ is) }

pub first_with_key : {T : Type 0} (key : T → ℕ) (k : ℕ) (xs : List T) (r : Option T) → r ≡ find (with_key key k) xs → FirstWith (λ x. key x ≡ k) xs r
first_with_key key k = first_with_lem (with_key key k) (λ x. key x ≡ k) (λ x. eqb-true (key x) k) (λ x. eq-eqb (key x) k)

-- turned twice, records come in their order
pub turned_twice : {A : Type 0} {s : _} {t : _} {i : _} (xs : List A) → rev_source s ≡ t → rev_source t ≡ i → iter_rest i ≡ xs → YieldsList (rev_steps (rev_steps iter_steps)) (λ y. y.now) s xs
turned_twice {A} {s} xs d e f =
    subst (YieldsList (rev_steps (rev_steps iter_steps)) (λ y. y.now) s) (ap (λ t. iter_rest (rev_source t)) d ∙ ap iter_rest e ∙ f)
    (YieldsList-from_shown (rev_steps (rev_steps iter_steps)) (λ y. y.now) (λ u. iter_rest (rev_source (rev_source u))) (λ u t p. p.0) (λ u x t p. p) s)

-- the ways through a slice that give its records in their order
pub ruleset in_order = (YieldsList-from_slice, turned_twice)

-- what `find` gives of the records that an iterator yields; its run says which iterator
pub found_on_run : {S T F : Type 0} {steps : S → Option (Bor T) → S → Type 0} {g : Mut F (Bor (Bor T) × Unit {0}) Bool} {s : S} (test : T → Bool) (p : Run steps) → p.from ≡ s → (u : S) (f : F) (r : Option (Bor T))
    → (ys : List (Bor T)) × (j : F) × YieldsThen steps s ys r u × FoldsTo (λ p x q. CalledAt g p x false q) f ys j × MatchOption r ⊤ (λ x. (h : F) × CalledAt g j x true h)
    → (xs : List T) → YieldsList steps (λ y. y.now) s xs → ((x : Bor T) (b : Bool) (q : F) → CalledAt g f x b q → (q ≡ f) × (b ≡ test x.now)) → option_map (λ y. y.now) r ≡ find test xs
found_on_run test p from u f r ran xs road calls = find_from_yields_List test u f r ran road calls
