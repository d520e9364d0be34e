-- A key of derived bytes.
use Rattle.std.specs.Prelude.{ℕ, ◌≡◌, Bool, false, nat_lt, min, List, length, take, None}
use Rattle.psa_status.specs.Rows.{first_row}
use Rattle.key_attributes.specs.declared.Attributes.{Attributes}
use Rattle.derivation_states.specs.KeySteps.{derived_key_bytes}
use Rattle.store_model.specs.{Prelude.After, Prelude.DerivationWork, Prelude.next_derived, Prelude.output_key_rows, Prelude.Held, Prelude.HandleOperation, Prelude.Deriving, Prelude.derivation_part, Prelude.part_of, DerivationOperations.stated_bytes}
use Rattle.operation_handles.specs.Steps.{on_part}

-- what the derivation makes of a key that it refuses, by whether the key that it has is still there
abbrev pub derived_key_refused : (alive : Bool) → HandleOperation → Attributes → After Held
derived_key_refused alive operation a = on_part operation Deriving (part_of derivation_part operation) alive (λ w. derived_key_bytes w a)

-- no row refuses the key, there are enough bytes, and the front of them is there, as many as can be written
pub record IsDerivedKey (w : DerivationWork) (a : Attributes) (count : ℕ) (out : List ℕ) : Type 0 where
  pub rows : first_row (output_key_rows w a) ≡ None
  pub enough : nat_lt w.capacity (stated_bytes a) ≡ false
  pub size : count ≡ min (length (next_derived w (stated_bytes a))) 1025
  pub bytes : take count out ≡ take count (next_derived w (stated_bytes a))
