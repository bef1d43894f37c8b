-- The meaning of a layer, from that of the sink below it.
use Rattle.std.specs.Prelude.{ℕ, ◌+◌, min, List, take}
use Rattle.arrayvec.specs.ArrayVec.{array_vec_len}
use Rattle.sink.specs.Meaning.{View, grown}
use Rattle.sink.specs.declared.Sink.{Ghosts}
use Rattle.gather.specs.declared.Gather.{Gather}

module _ {S : Type 0} (g : Ghosts S) where
  -- How many bytes wait in a layer: those that it keeps, as far as the sink below has room for them.
  abbrev pub waiting_in : Gather S → ℕ
  waiting_in s = min (array_vec_len s.waiting) (g.view s.below).room

  -- The bytes that wait.
  abbrev pub waiting_bytes : Gather S → List ℕ
  waiting_bytes s = take (waiting_in s) s.waiting.items

  -- How many bytes a layer holds back, those that the sink below holds back among them.
  abbrev pub layer_held : Gather S → ℕ
  layer_held s = g.held s.below + waiting_in s

  -- What a layer means: what is below, and then the bytes that wait.
  abbrev pub layer_view : Gather S → View
  layer_view s = grown (g.view s.below) (waiting_bytes s)
