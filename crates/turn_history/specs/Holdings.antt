-- What the passes have out of the value: a list for each pass number, from 1 on.
use Rattle.std.specs.Prelude.{ℕ, ◌-◌, List, [], slice_index_or, slice_set}

abbrev pub Holding : Type 0
Holding = List (ℕ × ℕ)

-- what the pass n has
abbrev pub held_by : List Holding → ℕ → Holding
held_by holdings n = slice_index_or holdings (n - 1) []

-- what all have, once the pass n has `own`
abbrev pub with_held_by : List Holding → ℕ → Holding → List Holding
with_held_by holdings n own = slice_set holdings (n - 1) own
