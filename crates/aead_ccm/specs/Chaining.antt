-- The chain of CCM, in parts.
use Rattle.std.specs.{Prelude.ℕ, Prelude.◌-◌, Prelude.List, Prelude.◌++◌, Prelude.length, Prelude.replicate, List.fold}
use Rattle.crypto_specs.specs.Prelude.{chain_step}

-- a part of a block, filled with zeros
abbrev pub filled_block : List ℕ → List ℕ
filled_block piece = piece ++ replicate (16 - length piece) 0

-- the chain over blocks, from the value y on
abbrev pub chained_from : (List ℕ → List ℕ) → List ℕ → List (List ℕ) → List ℕ
chained_from e y bs = fold (chain_step e) y bs
