-- A key of a handle's derived bytes, as the service serves it.
use Rattle.operation_handles.proofs.Common.{Active, After, Attributes, BadState, DerivationWork, Deriving, InError, Inactive, InsufficientData, InvalidArgument, InvalidHandle, KeyOutputsAreTheModels, NotPermitted, NotSupported, Operation, Rows, Served, Service, Status, applied, derivation_part, derived_key_bytes, exhausted, fails, first_row, first_row-back, first_row-front, given, goes_on, has_live_key, held_after, key_of_operation, location, next_derived, on_part, operation_of, output_key, output_key_refusal, output_key_rows, part_of, recorded_of, stated_bytes, taken_from, underived, unless, unless_failed, with_live_key, without, Bool, None, Option, Some, [], ap, cond, false, is_some, nat_lt, not, refl, subst, sym, true, ℕ, ◌%◌, ◌++◌, ◌==◌, ◌||◌, ◌∙◌, ◌∷◌, ◌≡◌}
use Rattle.psa_status.specs.Rows.{◌>>=◌}
use Rattle.store_model.specs.HandleCalls as calls
use Rattle.operation_handles.proofs.Served.{untouched_is}

-- what comes of a key by the first refusal of the derivation's
abbrev output_by : Service → (caller handle : ℕ) → DerivationWork → Attributes → Option Status → Served
output_by service caller handle w a refused =
    calls.derived_key service caller handle (key_of_operation (operation_of service caller handle)) w (stated_bytes a) (unless refused a >>= (λ stated. recorded_of service.store caller stated (stated_bytes a)))

-- the rows of a derivation whose key is still there
abbrev due_rows : DerivationWork → Attributes → Rows
due_rows w a = output_key_rows w a ++ (nat_lt w.capacity (stated_bytes a), InsufficientData) ∷ []

abbrev output_of : Service → (caller handle : ℕ) → DerivationWork → Attributes → Bool → Served
output_of service caller handle w a alive = output_by service caller handle w a (first_row ((not alive, InvalidHandle) ∷ due_rows w a))

-- a call of the derivation alone, with the key that the operation has
abbrev derived_by : Service → (caller handle : ℕ) → After DerivationWork → Served
derived_by service caller handle after = applied service caller handle (held_after (key_of_operation (operation_of service caller handle)) Deriving after)

-- REFUSED BY THE DERIVATION

-- no row but the last says that there are too few bytes
fails_by : (w : DerivationWork) (a b c d : Bool) (status : Status) → first_row ((a, BadState) ∷ (b, InvalidArgument) ∷ (c, NotSupported) ∷ (d, NotPermitted) ∷ []) ≡ Some status → underived w status ≡ fails status
fails_by w true b c d status e = let same : BadState ≡ status = cc in subst (λ s. underived w s ≡ fails s) same refl
fails_by w false true c d status e = let same : InvalidArgument ≡ status = cc in subst (λ s. underived w s ≡ fails s) same refl
fails_by w false false true d status e = let same : NotSupported ≡ status = cc in subst (λ s. underived w s ≡ fails s) same refl
fails_by w false false false true status e = let same : NotPermitted ≡ status = cc in subst (λ s. underived w s ≡ fails s) same refl
fails_by w false false false false status e = cc

short_by : (service : Service) (caller handle : ℕ) (w : DerivationWork) (a : Attributes) (short : Bool) → (first_row ((short, InsufficientData) ∷ []) ≡ None → ⊥) →
    output_by service caller handle w a (first_row ((short, InsufficientData) ∷ []))
    ≡ derived_by service caller handle (cond short (exhausted w) (goes_on (without w (stated_bytes a)) (given (next_derived w (stated_bytes a)))))
short_by service caller handle w a true refuses = refl
short_by service caller handle w a false refuses = absurd (refuses refl)

refused_by : (service : Service) (caller handle : ℕ) (w : DerivationWork) (a : Attributes) (o : Option Status) → first_row (output_key_rows w a) ≡ o → (first_row (due_rows w a) ≡ None → ⊥) →
    output_by service caller handle w a (first_row (due_rows w a))
    ≡ derived_by service caller handle (unless_failed o (taken_from w (stated_bytes a) (given (next_derived w (stated_bytes a)))))
refused_by service caller handle w a (Some status) e refuses =
    ap (output_by service caller handle w a) (first_row-front (output_key_rows w a) ((nat_lt w.capacity (stated_bytes a), InsufficientData) ∷ []) status e)
    ∙ ap (derived_by service caller handle) (fails_by w (not (is_some w.secret)) (a.bits == 0 || not (a.bits % 8 == 0)) (not (location a.lifetime.0 == 0)) (not w.by_key) status e)
refused_by service caller handle w a None e refuses =
    let last = first_row-back (output_key_rows w a) ((nat_lt w.capacity (stated_bytes a), InsufficientData) ∷ []) e in
    ap (output_by service caller handle w a) last
    ∙ short_by service caller handle w a (nat_lt w.capacity (stated_bytes a)) (λ none. refuses (last ∙ none))

alive_or_not : (service : Service) (caller handle : ℕ) (w : DerivationWork) (a : Attributes) (alive : Bool) → (first_row (due_rows w a) ≡ None → ⊥) →
    output_of service caller handle w a alive ≡ derived_by service caller handle (with_live_key alive (derived_key_bytes w a))
alive_or_not service caller handle w a true refuses = refused_by service caller handle w a (first_row (output_key_rows w a)) refl refuses
alive_or_not service caller handle w a false refuses = refl

refused_of : (service : Service) (caller handle : ℕ) (own : Operation DerivationWork) (a : Attributes) → (output_key_refusal own a ≡ None → ⊥) →
    output_key service caller handle own a
    ≡ applied service caller handle (on_part (operation_of service caller handle) Deriving own (has_live_key service caller handle) (λ w. derived_key_bytes w a))
refused_of service caller handle (Active w) a refuses = alive_or_not service caller handle w a (has_live_key service caller handle) refuses
refused_of service caller handle Inactive a refuses = untouched_is service caller handle BadState
refused_of service caller handle InError a refuses = untouched_is service caller handle BadState

-- ANY LAW

pub outputs : KeyOutputsAreTheModels
outputs = record {
  refused = λ service caller handle a refuses. refused_of service caller handle (part_of derivation_part (operation_of service caller handle)) a refuses;
  lost = λ service caller handle a w derives dead.
      ap (λ o. output_key service caller handle o a) derives
      ∙ ap (output_of service caller handle w a) dead;
  due = λ service caller handle a w derives alive passes.
      ap (λ o. output_key service caller handle o a) derives
      ∙ ap (output_of service caller handle w a) alive
      ∙ ap (output_by service caller handle w a) (sym (ap (λ o. output_key_refusal o a) derives) ∙ passes);
}
