-- The declared lengths, as the model's.
use Rattle.std.specs.Prelude.{ℕ, Option, Some, None}
use Rattle.store_model.specs.AeadOperations as model
use Rattle.aead_states.specs.declared.lengths.Lengths.{Lengths}

abbrev pub declared_lengths : Option Lengths → Option model.Lengths
declared_lengths (Some lengths) = Some (record { ad = lengths.ad; payload = lengths.payload })
declared_lengths None = None

-- the associated data that was declared, and 0 where none was
abbrev pub declared_ad : Option model.Lengths → ℕ
declared_ad (Some lengths) = lengths.ad
declared_ad None = 0
