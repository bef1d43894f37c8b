-- `fill` makes every record zero.
use Rattle.std.proofs.Common.{◌≡◌, List, [], ◌∷◌, length, replicate, refl, ap, subst, rules, tests, arith}
use Rattle.std.proofs.lemmas.Grind.{common_steps}
use Rattle.std.specs.List.{FoldsTo}
use Rattle.tray.proofs.zero.fill.Goals as goal

-- what calls made that each give y and keep the state
made_replicate : {P T : Type 0} (R : P → T → P → Type 0) (f : P) (y : T) → ((x : T) (q : P) → R f x q → (q ≡ f) × (x ≡ y)) → (xs : List T) (last : P) → FoldsTo R f xs last → xs ≡ replicate (length xs) y
made_replicate R f y gives [] last r = refl
made_replicate R f y gives (x ∷ xs) last (q, c, rest) =
    let g = gives x q c in
    rw g.1 (ap (λ zs. y ∷ zs) (made_replicate R f y gives xs last (subst (λ p. FoldsTo R p xs last) g.0 rest)))

pub returns : goal.returns
returns g c =
    let made = made_replicate _ _ g.T.Zero.zero (λ x q k. search (rules, tests)) _ _ c.fill_with.ensures.ran.1 in
    let kept = c.fill_with.ensures.len in
    grind (arith, common_steps, made, kept)
