-- The table of kinds: each kind is that of its own number, and a number has a kind exactly if it is not above the highest.
use Rattle.std.proofs.Common.{◌≡◌, ℕ, ◌<◌, ◌≤◌, Some, None, Ok, refl, sym, ap, ◌∙◌, ⊎_elim, arith}
use Rattle.std.proofs.lemmas.Bool.{cases_lt}
use Rattle.std.proofs.lemmas.Bool.Decides.{nat_tests}
use Rattle.std.proofs.lemmas.Option.{slice_get_past}
use Rattle.std.specs.Option.{ok_or}
use Rattle.std.specs.Prelude.{slice_get}
use Rattle.page.specs.declared.types.Kind.{Kind}
use Rattle.page.specs.declared.types.Refusal.TheVariants as refusal
use Rattle.page.specs.declared.types.TheConstants.Kind.{ALL}
use Rattle.page.specs.Numbers.{IsCaseAt, highest_kind, kind_at, kind_number, kind_numbered}

pub kind_at_number : (k : Kind) → kind_at (kind_number k) ≡ Some k
kind_at_number k = grind (arith, nat_tests)

pub number_kind_numbered : (n : ℕ) → n ≤ highest_kind → n ≡ kind_number (kind_numbered n)
number_kind_numbered n low = grind (arith, nat_tests)

pub kind_at_low : (n : ℕ) → n ≤ highest_kind → kind_at n ≡ Some (kind_numbered n)
kind_at_low n low = grind (arith, nat_tests)

pub kind_at_high : (n : ℕ) → highest_kind < n → kind_at n ≡ None
kind_at_high n high = grind (arith, nat_tests)

all_low : (n : ℕ) → n ≤ highest_kind → slice_get ALL n ≡ Some (kind_numbered n)
all_low n low = grind (arith, nat_tests)

-- the list of all kinds has at each number its kind
pub all_at : (n : ℕ) → slice_get ALL n ≡ kind_at n
all_at n =
    ⊎_elim
    (λ high. slice_get_past ALL n high ∙ sym (kind_at_high n high))
    (λ low. all_low n low ∙ sym (kind_at_low n low))
    (cases_lt highest_kind n)

at_kind : (n : ℕ) (k : Kind) → ok_or (kind_at n) refusal.Kind ≡ Ok k → kind_number k ≡ n
at_kind n k e =
    ⊎_elim
    (λ high. let none = kind_at_high n high in grind arith)
    (λ low. let at = kind_at_low n low in let number = number_kind_numbered n low in grind arith)
    (cases_lt highest_kind n)

-- a kind is found by its own number
pub kind_found : (n : ℕ) → IsCaseAt kind_at kind_number refusal.Kind n (ok_or (kind_at n) refusal.Kind)
kind_found n = record {
  value = refl;
  found = λ k. (at_kind n k, λ e. ap (λ m. ok_or (kind_at m) refusal.Kind) (sym e) ∙ ap (λ o. ok_or o refusal.Kind) (kind_at_number k));
}
