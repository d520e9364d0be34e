-- The random bytes that calls draw.
use Rattle.std.specs.Prelude.{ℕ, List}

-- a caller's next random bytes, as many as are asked for
abbrev pub Random : Type 0
Random = ℕ → List ℕ
