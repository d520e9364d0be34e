-- A key as the secret or the password of a derivation.
use Rattle.std.specs.Prelude.{ℕ, ◌≡◌, Bool, None}
use Rattle.psa_status.specs.Rows.{first_row}
use Rattle.alg_encoding.specs.Encoding.{IsConcrete}
use Rattle.key_policy.specs.{declared.key_use.KeyUse.KeyUse, declared.key_use.KeyUse.TheVariants.Derivation}
use Rattle.store_model.specs.Prelude.{done, After, Active, goes_on, unless_failed, DerivationWork, key_step_rows, Held, HandleOperation, Deriving, derivation_part, key_of_operation, part_of}
use Rattle.operation_handles.specs.Steps.{on_part}

-- the operation is a derivation that has no key and takes one at this step, which is then looked for so
pub record TakesKeyAt (operation : HandleOperation) (step : ℕ) (wanted : KeyUse) : Type 0 where
  pub w : DerivationWork
  pub derives : part_of derivation_part operation ≡ Active w
  pub no_key : key_of_operation operation ≡ None
  pub due : first_row (key_step_rows w step) ≡ None
  pub wanted_is : wanted ≡ Derivation step (record { 0 = w.alg })
  pub concrete : IsConcrete w.alg

-- no key is taken at this step, whatever it is
abbrev pub RefusesKeyAt : HandleOperation → (step : ℕ) → Type 0
RefusesKeyAt operation step =
    (w : DerivationWork) → part_of derivation_part operation ≡ Active w → first_row (key_step_rows w step) ≡ None → ⊥

-- what becomes of the operation then, by whether the key that it has is still there
abbrev pub key_refused : (alive : Bool) → HandleOperation → (step : ℕ) → After Held
key_refused alive operation step =
    on_part operation Deriving (part_of derivation_part operation) alive (λ w. unless_failed (first_row (key_step_rows w step)) (goes_on w done))
