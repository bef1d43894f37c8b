-- An array mapped by a closure that computes a function of each element and stays as it was.
use Rattle.std.proofs.Common.{◌≡◌, ℕ, zero, suc, ◌+◌, ◌<◌, ◌≤◌, List, [], ◌∷◌, length, get_or, map, sym, ap, subst, ◌∙◌, ⊎_elim, arith}
use denote.Param.Members.{Mut, Called}
use Rattle.std.specs.Array.{list_steps, MapsFrom, IsMapOf}
use Rattle.std.specs.List.{AllByRecursion, range_with_len}
use Rattle.std.specs.Iterator.{CallableAtEachTurn}
use Rattle.std.proofs.lemmas.Iterator.Adapters.{serves_from_places}
use Rattle.std.proofs.lemmas.Iterator.Consumers.{YieldsList-from_shown}
use Rattle.std.proofs.lemmas.List.FromFn.{fill_by_all}
use Rattle.std.proofs.lemmas.Bool.{cases_lt}

-- What all elements have, each has at its place.
all_places : (P : ℕ → Type 0) (xs : List ℕ) → AllByRecursion P xs → (k x : ℕ) → k < length xs → x ≡ get_or xs k x → P x
all_places P [] a k x l e = absurd (omega arith)
all_places P (y ∷ ys) a zero x l e = subst P (sym e) a.0
all_places P (y ∷ ys) a (suc k) x l e = all_places P ys a.1 k x (omega arith) e

-- The closure may be called at each element, where it may at all that have P, as each of them does.
pub serves_all : {F : Type 0} {R : F → ℕ → F → Type 0} {Q : F → ℕ → Type 0} {xs : List ℕ} {f : F} (P : ℕ → Type 0) → ((x : ℕ) (q : F) → R f x q → q ≡ f) → ((x : ℕ) → P x → Q f x) → AllByRecursion P xs → CallableAtEachTurn list_steps R Q xs f
serves_all {xs = xs} P stays may a =
    serves_from_places (YieldsList-from_shown list_steps (λ x. x) (λ s. s) (λ s t e. ap length e) (λ s x t e. e) xs) stays (λ x k l e. may x (all_places P xs a k x l e))

-- The list that it makes.
module _ {F : Type 0} (g : Mut F (ℕ × Unit {0}) ℕ) (f : F) (to : ℕ → ℕ) (computes : (x y : ℕ) (q : F) → Called g f (x, tt) y q → (q ≡ f) × (y ≡ to x)) (xs ys : List ℕ) where
  maps_from : (n i k : ℕ) → MapsFrom g f xs ys i n → i ≤ k → k < i + n → get_or ys k 0 ≡ to (get_or xs k 0)
  maps_from zero i k m h l = absurd (omega arith)
  maps_from (suc n) i k m h l =
      let c = computes m.1 m.2 m.0 m.5 in
      ⊎_elim
      (λ (b : i < k). maps_from n (i + 1) k (subst (λ q. MapsFrom g q xs ys (i + 1) n) c.0 m.6) (omega arith) (omega arith))
      (λ (b : k ≤ i). let e : k ≡ i = omega arith in rw e (m.4.1 0 ∙ c.1 ∙ ap to (sym (m.3.1 0))))
      (cases_lt i k)

  pub array_mapped : (n : ℕ) → IsMapOf g f xs ys n → ys ≡ map (λ k. to (get_or xs k 0)) (range_with_len 0 n)
  array_mapped n m = fill_by_all (λ k. to (get_or xs k 0)) ys n 0 m.long (λ k l. maps_from n 0 k m.each (omega arith) (omega arith))
