-- Laws of runs and of the due reading.
use Rattle.std.specs.Prelude.{◌≡◌, ℕ, ◌+◌, Bool, true, false, List, [], ◌∷◌, length, take, is_some, Some}
use Rattle.page.specs.Decoded.{decoded}
use Rattle.sheet.specs.declared.refusals.WordRefusal.{WordRefusal}
use Rattle.sheet.specs.Due.{Drawing, drawing, ended, reading_of, due_reading}
use Rattle.sheet.specs.Run.{Run, no_run, judged, word_done, run}

-- A refused word changes nothing of what is drawn: the words around it draw as they do without it.
abbrev pub RefusedWordsDrawNothing : Type 0
RefusedWordsDrawNothing = (d : Drawing) (w : ℕ) (ws : List ℕ) (flags : List Bool) → drawing d (w ∷ ws) (true ∷ flags) ≡ drawing d ws flags

-- A word that is refused leaves the sheet, and with it every byte, as it was.
abbrev pub RefusedWordsLeaveTheSheet : Type 0
RefusedWordsLeaveTheSheet =
    (room : ℕ) (r : Run) (w : ℕ) (why : WordRefusal) → judged room r.sheet (decoded w) ≡ Some why → (word_done room r w).sheet ≡ r.sheet

-- Which words of a script are refused, from a run on.
abbrev pub refused_from : ℕ → Run → List ℕ → List Bool
refused_from room r [] = []
refused_from room r (w ∷ ws) = is_some (judged room r.sheet (decoded w)) ∷ refused_from room (word_done room r w) ws

-- Which words of a script are refused on a sink of this room, up to the length told.
abbrev pub refused_words : ℕ → ℕ → List ℕ → List Bool
refused_words room told ws = refused_from room no_run (take told ws)

-- How many flags are set.
abbrev pub count_set : List Bool → ℕ
count_set [] = 0
count_set (f ∷ fs) = elim f [ true ↦ 1 + count_set fs | false ↦ count_set fs ]

-- A run draws what its words are due to draw: the due reading of the words, of which those were refused that the run
-- refused, is the reading of the run's own drawing with its open path ended.
abbrev pub RunsDrawWhatIsDue : Type 0
RunsDrawWhatIsDue =
    (room told : ℕ) (ws : List ℕ) → due_reading (take told ws) (refused_words room told ws) ≡ reading_of (ended (run room told ws).sheet.drawing)

-- Each word up to the length told is obeyed or refused: a run has as many notes as refused words, and as many words as
-- the script up to there.
pub record WordsAreObeyedOrRefused (room told : ℕ) (ws : List ℕ) : Type 0 where
  pub words : (run room told ws).place ≡ length (take told ws)
  pub notes : length (run room told ws).notes ≡ count_set (refused_words room told ws)

-- That holds of every run.
abbrev pub EveryWordIsObeyedOrRefused : Type 0
EveryWordIsObeyedOrRefused = (room told : ℕ) (ws : List ℕ) → WordsAreObeyedOrRefused room told ws
