-- What a derivation's state stands for, beside its algorithm.
use Rattle.std.specs.Prelude.{ℕ, ◌≡◌}
use Rattle.alg_encoding.specs.Encoding.{IsConcrete}
use Rattle.store_model.specs.Prelude.{Operation, Inactive, InError, Active, DerivationWork}
use Rattle.derivation_states.specs.{States.IsDerivationOperation, declared.DerivationState.DerivationState}

-- an active derivation has this algorithm
abbrev pub HasAlgorithm : ℕ → Operation DerivationWork → Type 0
HasAlgorithm alg (Active w) = (alg ≡ w.alg) × IsConcrete alg
HasAlgorithm alg Inactive = Unit {0}
HasAlgorithm alg InError = Unit {0}

pub record IsDerivation (alg : ℕ) (s : DerivationState) (operation : Operation DerivationWork) : Type 0 where
  pub state : IsDerivationOperation s operation
  pub algorithm : HasAlgorithm alg operation
