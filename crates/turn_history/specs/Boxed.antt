-- A value in a box, as the lock holds it.
use Rattle.std.specs.{Prelude.List, Global.Box}
use Rattle.turn_history.specs.Holdings.{Holding}

-- a box stands for what its value stands for
abbrev pub boxed_stands : {V E : Type 0} → (V → List E → List Holding → Type 0) → Box V → List E → List Holding → Type 0
boxed_stands stands b = stands b.value

-- and has its base
abbrev pub boxed_base : {V B : Type 0} → (V → B) → Box V → B
boxed_base base b = base b.value
