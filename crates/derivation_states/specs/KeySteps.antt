-- What begins a derivation, and its part of the steps that look at the store's keys.
use Rattle.std.specs.Prelude.{ℕ, nat_lt, List, [], ◌∷◌, ◌++◌, Option, Some}
use Rattle.key_attributes.specs.declared.Attributes.{Attributes}
use Rattle.alg_encoding.specs.declared.table.Class.TheVariants.{Derivation}
use Rattle.psa_status.specs.{declared.Status.Status, declared.Status.TheVariants.BadState, declared.Status.TheVariants.InsufficientData, Rows.first_row}
use Rattle.store_model.specs.{Prelude.class_rows, Prelude.given, Prelude.done, Prelude.Operation, Prelude.Active, Prelude.After, Prelude.goes_on, Prelude.set_up, Prelude.unless_failed, Prelude.DerivationWork, Prelude.derivation_work, Prelude.key_step_rows, Prelude.next_derived, Prelude.output_key_rows, Prelude.taken_from, Prelude.with_key, DerivationOperations.stated_bytes}

-- kdf_setup
abbrev pub derivation_setup : Operation DerivationWork → ℕ → After DerivationWork
derivation_setup operation alg = set_up operation (first_row (class_rows Derivation alg)) (derivation_work alg)

-- output_key of the derivation alone: the bytes of the key that is to be created
abbrev pub derived_key_bytes : DerivationWork → Attributes → After DerivationWork
derived_key_bytes w a =
    let n : ℕ = stated_bytes a in
    unless_failed (first_row (output_key_rows w a)) (taken_from w n (given (next_derived w n)))

-- input_key of the derivation alone, once the key is known to be for it
abbrev pub key_given : DerivationWork → ℕ → List ℕ → After DerivationWork
key_given w step key = unless_failed (first_row (key_step_rows w step)) (goes_on (with_key w key) done)

-- what input_key refuses before its key is looked at, of any operation
abbrev pub key_step_refusal : Operation DerivationWork → ℕ → Option Status
key_step_refusal (Active w) step = first_row (key_step_rows w step)
key_step_refusal _ step = Some BadState

-- what output_key refuses of a derivation whose key is still there, before the table of creations, of any operation
abbrev pub output_key_refusal : Operation DerivationWork → Attributes → Option Status
output_key_refusal (Active w) a = first_row (output_key_rows w a ++ (nat_lt w.capacity (stated_bytes a), InsufficientData) ∷ [])
output_key_refusal _ a = Some BadState
