-- A law of the output that is due.
use Rattle.std.specs.Prelude.{◌≡◌, List, ℕ, length, take}

-- what is due after more was given begins with what was due before
abbrev pub DueGrows : {W I : Type 0} → (due : W → List ℕ) → (longer : W → I → W) → Type 0
DueGrows {W = W} {I = I} due longer = (w : W) (more : I) → take (length (due w)) (due (longer w more)) ≡ due w
