-- The due reading of a script: from its words and from which of them were refused, and from nothing else.
use Rattle.std.specs.Prelude.{ℕ, zero, suc, ◌+◌, ◌-◌, Bool, false, cond, List, [], ◌∷◌, ◌++◌, length, Some, None, Ok, Err, Option, Result}
use Rattle.page.specs.declared.types.PaintOperator.TheVariants.{End}
use Rattle.page.specs.declared.types.Refusal.{Refusal}
use Rattle.page.specs.declared.types.Word.{Word}
use Rattle.page.specs.declared.types.Word.TheVariants as word
use Rattle.page.specs.Decoded.{decoded}
use Rattle.machine.specs.declared.types.Drawn.{Drawn}
use Rattle.machine.specs.declared.types.Open.{Open}
use Rattle.machine.specs.declared.types.Open.TheVariants.{Page, Save, Mark, Text, Path}
use Rattle.machine.specs.declared.types.Step.{Step}
use Rattle.machine.specs.declared.types.Step.TheVariants as step
use Rattle.machine.specs.Stack.{some_open, path_in}
use Rattle.machine.specs.State.{State, state_of, no_numbers, did, draws}
use Rattle.machine.specs.Steps.{step_of}
use Rattle.sheet.specs.declared.items.Item.{Item}
use Rattle.sheet.specs.Tree.{Tree, no_tree, mark, adopted, with_element, kids_of}
use Rattle.sheet.specs.Walk.{Tagged, walk, read_along}

-- What words make: the page machine, the tree of elements, how many element marks the page has, and what was drawn in the
-- marks of elements.
pub record Drawing : Type 0 where
  pub machine : State
  pub tree : Tree
  pub marks : ℕ
  pub tagged : List Tagged

-- Before the first word there is no page and no element.
abbrev pub no_drawing : Drawing
no_drawing = record { machine = state_of [] no_numbers; tree = no_tree; marks = 0; tagged = [] }

-- Whether a thing is the mark of an element.
abbrev pub is_owned : Open → Bool
is_owned Page = false
is_owned (Save axes) = false
is_owned (Mark owned) = owned
is_owned Text = false
is_owned Path = false

-- The page that words are on: pages are counted from 1 as they are opened.
abbrev pub page_of : Drawing → ℕ
page_of d = d.machine.numbers.counts.pages

-- What is drawn now, with the mark that is open: it is the page's newest.
abbrev pub tagged_in : Drawing → List Drawn → List Tagged
tagged_in d [] = []
tagged_in d (x ∷ xs) = record { page = page_of d; identifier = d.marks - 1; drawn = x } ∷ tagged_in d xs

-- The drawing after a step of the machine.
abbrev pub stepped : Drawing → Step → Drawing
stepped d s = record {
  machine = did d.machine s;
  tree = d.tree;
  marks = d.marks;
  tagged = d.tagged ++ cond (some_open is_owned d.machine.stack) (tagged_in d (draws d.machine s)) [];
}

-- A page begins with no mark.
abbrev pub unmarked : Drawing → Drawing
unmarked d = record { machine = d.machine; tree = d.tree; marks = 0; tagged = d.tagged }

-- A mark of an element gets the page's next identifier, from 0, and becomes the element's last kid; one of an artifact
-- gets none.
abbrev pub marked_for : Drawing → ℕ → Drawing
marked_for d zero = d
marked_for d (suc e) = record {
  machine = d.machine;
  tree = adopted d.tree (suc e) (mark (page_of d) d.marks);
  marks = d.marks + 1;
  tagged = d.tagged;
}

-- The drawing with an element more.
abbrev pub grown_by : Drawing → Tree → Drawing
grown_by d t = record { machine = d.machine; tree = t; marks = d.marks; tagged = d.tagged }

-- The drawing after the step of a word, if it has one.
abbrev pub stepped_by : Drawing → Option Step → Drawing
stepped_by d None = d
stepped_by d (Some s) = stepped d s

-- What a word does beside its step.
abbrev pub besides : Drawing → Word → Drawing
besides d (word.Page width height) = unmarked d
besides d word.Close = d
besides d (word.Element parent role) = grown_by d (with_element d.tree parent role)
besides d (word.Mark e) = marked_for d e
besides d word.Save = d
besides d (word.Origin a b) = d
besides d (word.Turn quarters) = d
besides d (word.Pen a b) = d
besides d (word.Line a b) = d
besides d (word.Paint operator) = d
besides d (word.Text size) = d
besides d (word.Place a b) = d
besides d (word.Show codes) = d

-- The drawing after a word that is obeyed.
abbrev pub obeyed : Drawing → Word → Drawing
obeyed d w = besides (stepped_by d (step_of w)) w

-- The same of 32 bits; those that say no word do nothing.
abbrev pub obeyed_bits : Drawing → Result Word Refusal → Drawing
obeyed_bits d (Ok w) = obeyed d w
obeyed_bits d (Err e) = d

-- The drawing after some words. A flag for each tells whether it was refused, which is false where there is none.
unfoldable pub drawing : Drawing → List ℕ → List Bool → Drawing
drawing d [] flags = d
drawing d (w ∷ ws) [] = drawing (obeyed_bits d (decoded w)) ws []
drawing d (w ∷ ws) (refused ∷ flags) = drawing (cond refused d (obeyed_bits d (decoded w))) ws flags

-- At the end a path that is open is painted by n.
abbrev pub ended : Drawing → Drawing
ended d = cond (path_in d.machine.stack) (stepped d (step.Paint End)) d

-- The items of a drawing in reading order. No way down the tree is longer than there are elements.
abbrev pub reading_of : Drawing → List Item
reading_of d = read_along (walk (length d.tree.elements + 1) (kids_of d.tree) 0) d.tagged

-- The due reading of words, of which these were refused.
unfoldable pub due_reading : List ℕ → List Bool → List Item
due_reading ws flags = reading_of (ended (drawing no_drawing ws flags))
