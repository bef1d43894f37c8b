-- `append` leaves the lender the longer list.
use Rattle.std.proofs.Common.{◌≡◌, ℕ, ◌+◌, List, [], ◌∷◌, ◌++◌, take, drop, append_assoc, sym, ap, ◌∙◌, rules}
use Rattle.std.proofs.lemmas.List.{drop-drop}
use Rattle.tray.specs.Trays.{records, beyond}
use Rattle.tray.proofs.append.Goals as goal

-- the list with one record more, and the memory after it
whole_put : {T : Type 0} (n : ℕ) (m : List T) (x : T) → (take n m ++ x ∷ []) ++ drop 1 (drop n m) ≡ take n m ++ x ∷ drop (n + 1) m
whole_put n m x = append_assoc (take n m) (x ∷ []) (drop 1 (drop n m)) ∙ ap (λ ys. take n m ++ x ∷ ys) (drop-drop 1 n m)

pub returns-clause-after : goal.returns-clause-after
returns-clause-after g c =
    let m = c.args.memory.now in
    let n = c.args.count in
    let x = c.args.item in
    let begun = c.resume-tray.ensures in
    let put = c.in_ok-push.ensures in
    let place = sym (put.loan ∙ begun.loan) in
    let list : records c.push.new.self ≡ take n m ++ x ∷ [] = put.list ∙ ap (λ xs. xs ++ x ∷ []) begun.list in
    let rest : beyond c.push.new.self ≡ drop 1 (drop n m) = put.rest ∙ ap (drop 1) begun.rest in
    let lands : c.close.new.self.0 ≡ take n m ++ x ∷ drop (n + 1) m = c.close.ensures.lands ∙ rw (list, rest) (whole_put n m x) in
    search rules
