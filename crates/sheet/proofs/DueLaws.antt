-- A run draws what its words are due to draw; every word is obeyed or refused.
use Rattle.std.proofs.Common.{◌≡◌, ℕ, ◌+◌, Bool, cond, List, [], ◌∷◌, length, take, is_some, Option, Result, refl, ◌∙◌, arith, length-append}
use Rattle.page.specs.declared.types.Refusal.{Refusal}
use Rattle.page.specs.declared.types.Word.{Word}
use Rattle.page.specs.Decoded.{decoded}
use Rattle.sheet.specs.declared.refusals.WordRefusal.{WordRefusal}
use Rattle.sheet.specs.Due.{drawing, due_reading, obeyed_bits}
use Rattle.sheet.specs.Sheet.{sheet_after}
use Rattle.sheet.specs.Run.{Run, no_run, judged, gone_by, word_done, words_done, run}
use Rattle.sheet.specs.Laws.{RefusedWordsDrawNothing, RefusedWordsLeaveTheSheet, refused_from, count_set, RunsDrawWhatIsDue, EveryWordIsObeyedOrRefused}

pub refused_draw_nothing : RefusedWordsDrawNothing
unfolding drawing
refused_draw_nothing d w ws flags = refl

pub refused_leave_the_sheet : RefusedWordsLeaveTheSheet
unfolding word_done
refused_leave_the_sheet room r w why e = rw e

-- what one word does to the drawing, to the count of words and to the notes
drawn_by : (r : Run) (x : Result Word Refusal) (j : Option WordRefusal) → (gone_by r x j).sheet.drawing ≡ cond (is_some j) r.sheet.drawing (obeyed_bits r.sheet.drawing x)
unfolding sheet_after
drawn_by r x j = grind arith

placed_by : (r : Run) (x : Result Word Refusal) (j : Option WordRefusal) → (gone_by r x j).place ≡ r.place + 1
placed_by r x j = grind arith

noted_by : (r : Run) (x : Result Word Refusal) (j : Option WordRefusal) (fs : List Bool) → length (gone_by r x j).notes + count_set fs ≡ length r.notes + count_set (is_some j ∷ fs)
noted_by r x j fs = grind (arith, length-append)

-- and several
draws_on : (room : ℕ) (r : Run) (ws : List ℕ) → (words_done room r ws).sheet.drawing ≡ drawing r.sheet.drawing ws (refused_from room r ws)
unfolding drawing words_done word_done
draws_on room r [] = refl
draws_on room r (w ∷ ws) = draws_on room (gone_by r (decoded w) (judged room r.sheet (decoded w))) ws ∙ rw (drawn_by r (decoded w) (judged room r.sheet (decoded w)))

counts_on : (room : ℕ) (r : Run) (ws : List ℕ) → (words_done room r ws).place ≡ r.place + length ws
unfolding words_done word_done
counts_on room r [] = omega arith
counts_on room r (w ∷ ws) =
    let next : Run = gone_by r (decoded w) (judged room r.sheet (decoded w)) in
    counts_on room next ws ∙ omega (arith, placed_by r (decoded w) (judged room r.sheet (decoded w)))

notes_on : (room : ℕ) (r : Run) (ws : List ℕ) → length (words_done room r ws).notes ≡ length r.notes + count_set (refused_from room r ws)
unfolding words_done word_done
notes_on room r [] = omega arith
notes_on room r (w ∷ ws) =
    let next : Run = gone_by r (decoded w) (judged room r.sheet (decoded w)) in
    notes_on room next ws ∙ noted_by r (decoded w) (judged room r.sheet (decoded w)) (refused_from room next ws)

pub runs_draw_what_is_due : RunsDrawWhatIsDue
unfolding due_reading run
runs_draw_what_is_due room told ws = rw (draws_on room no_run (take told ws))

pub obeyed_or_refused : EveryWordIsObeyedOrRefused
unfolding run
obeyed_or_refused room told ws = record { words = counts_on room no_run (take told ws) ∙ omega arith; notes = notes_on room no_run (take told ws) ∙ omega arith }
