-- A word is within the limits exactly if it passes none when it is obeyed.
use Rattle.std.proofs.Common.{◌≡◌, ℕ, zero, suc, ◌+◌, false, length, refl, arith, length-append, length-set}
use Rattle.std.proofs.lemmas.Bool.Decides.{nat_tests}
use Rattle.page.specs.declared.types.ElementType.{ElementType}
use Rattle.page.specs.declared.types.Word.{Word}
use Rattle.machine.specs.Stack.{saves_in}
use Rattle.sheet.specs.Tree.{Tree, Kid, mark, adopted, with_element}
use Rattle.sheet.specs.Due.{Drawing, obeyed, marked_for, page_of}
use Rattle.sheet.specs.Sheet.{Sheet}
use Rattle.sheet.specs.Run.{is_within}
use Rattle.sheet.specs.Conditions.{OverLimit}
use Rattle.sheet.specs.Conditions.OverLimit.{pages, elements, marks, drawn, saves}

-- what a kid more and an element more do to the count of elements
adopted_as_many : (t : Tree) (e : ℕ) (k : Kid) → length (adopted t e k).elements ≡ length t.elements
adopted_as_many t zero k = refl
adopted_as_many t (suc e) k = grind (arith, length-set)

marked_as_many : (d : Drawing) (e : ℕ) → length (marked_for d e).tree.elements ≡ length d.tree.elements
marked_as_many d zero = refl
marked_as_many d (suc e) = adopted_as_many d.tree (suc e) (mark (page_of d) d.marks)

elements_grown : (t : Tree) (parent : ℕ) (role : ElementType) → length (with_element t parent role).elements ≡ length t.elements + 1
elements_grown t parent role = grind (arith, length-append, adopted_as_many)

-- a word that passes a limit is not within the limits, and one that is not within them passes one
pub passed_is_beyond : (s : Sheet) (x : Word) → OverLimit s.drawing (obeyed s.drawing x) → is_within s x ≡ false
unfolding saves_in
passed_is_beyond s x h = grind (arith, nat_tests, elements_grown, marked_as_many)

pub beyond_passes_one : (s : Sheet) (x : Word) → is_within s x ≡ false → OverLimit s.drawing (obeyed s.drawing x)
unfolding saves_in
beyond_passes_one s x t = grind (arith, nat_tests, pages, elements, marks, drawn, saves, elements_grown)
