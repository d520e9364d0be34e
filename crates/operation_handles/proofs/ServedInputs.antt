-- A key as the secret of a handle's derivation, as the service serves it.
use Rattle.std.proofs.Common.{rules}
use Rattle.operation_handles.proofs.Common.{Active, applied, BadState, bytes_of_key, creation_of, derivation_key_rows, derivation_part, DerivationWork, Deriving, done, fails, first_row, first_row-front, goes_on, HandleOperation, has_live_key, held_after, Inactive, InError, input_key, is_concrete, Key, key_of_operation, key_step_rows, KeyCreation, KeyInputsAreTheModels, on_part, Operation, operation_of, part_of, Served, Service, Status, TakesKeyAt, unless_failed, use_refusal, with_key, with_live_key, Bool, None, Option, Some, ap, cond, false, refl, sym, true, ℕ, ◌∙◌, ◌≡◌}
use Rattle.std.specs.FinMap as map
use Rattle.key_policy.specs.{declared.key_use.KeyUse.KeyUse, Permissions.pattern_refusal}
use Rattle.operation_handles.proofs.{Served.untouched_is, Steps.same_work}

-- what comes of a key, by whether the one before is alive and by the first row
abbrev input_by : Service → (caller handle : ℕ) → DerivationWork → Option Key → (id : ℕ) → Bool → Option Status → Served
input_by service caller handle w found id alive refused =
    applied service caller handle (held_after (creation_of id found) Deriving (with_live_key alive (unless_failed refused (goes_on (with_key w (bytes_of_key found)) done))))

-- A KEY THAT ISN'T LOOKED AT

dead_or_failed : (service : Service) (caller handle : ℕ) (key other : Option KeyCreation) (w : DerivationWork) (status : Status) (alive : Bool) →
    applied service caller handle (held_after key Deriving (with_live_key alive (fails status))) ≡ applied service caller handle (held_after other Deriving (with_live_key alive (fails status)))
dead_or_failed service caller handle key other w status true = refl
dead_or_failed service caller handle key other w status false = refl

untimely_by : (service : Service) (caller handle step id : ℕ) (w : DerivationWork) (refused : Option Status) → first_row (key_step_rows w step) ≡ refused → (refused ≡ None → ⊥) →
    input_key service caller handle (Active w) step id
    ≡ applied service caller handle (on_part (operation_of service caller handle) Deriving (Active w) (has_live_key service caller handle) (λ v. unless_failed (first_row (key_step_rows v step)) (goes_on v done)))
untimely_by service caller handle step id w None e refuses = absurd (refuses refl)
untimely_by service caller handle step id w (Some status) e refuses =
    let found : Option Key = map.get service.store.keys id in
    let key : Option KeyCreation = key_of_operation (operation_of service caller handle) in
    let alive = has_live_key service caller handle in
    ap (input_by service caller handle w found id alive) (first_row-front (key_step_rows w step) (derivation_key_rows found step w.alg) status e)
    ∙ dead_or_failed service caller handle (creation_of id found) key w status alive
    ∙ sym (ap (λ o. applied service caller handle (held_after key Deriving (with_live_key alive (unless_failed o (goes_on w done))))) e)

untimely_of : (service : Service) (caller handle step id : ℕ) (own : Operation DerivationWork) → ((w : DerivationWork) → own ≡ Active w → first_row (key_step_rows w step) ≡ None → ⊥) →
    input_key service caller handle own step id
    ≡ applied service caller handle (on_part (operation_of service caller handle) Deriving own (has_live_key service caller handle) (λ v. unless_failed (first_row (key_step_rows v step)) (goes_on v done)))
untimely_of service caller handle step id (Active w) refuses = untimely_by service caller handle step id w (first_row (key_step_rows w step)) refl (refuses w refl)
untimely_of service caller handle step id Inactive refuses = untouched_is service caller handle BadState
untimely_of service caller handle step id InError refuses = untouched_is service caller handle BadState

-- A KEY THAT IS LOOKED AT

concrete_refusal : (b : Bool) (step alg : ℕ) (found : Option Key) → b ≡ true → cond b (first_row (derivation_key_rows found step alg)) (Some (pattern_refusal found)) ≡ first_row (derivation_key_rows found step alg)
concrete_refusal true step alg found e = refl
concrete_refusal false step alg found e = cc

-- what the key is refused is what its rows say
refusal_is : (operation : HandleOperation) (step : ℕ) (wanted : KeyUse) (found : Option Key) (h : TakesKeyAt operation step wanted) → use_refusal wanted found ≡ first_row (derivation_key_rows found step h.w.alg)
refusal_is operation step wanted found h = ap (λ u. use_refusal u found) h.wanted_is ∙ concrete_refusal (is_concrete h.w.alg) step h.w.alg found h.concrete

looked_at : (service : Service) (caller handle step id : ℕ) (wanted : KeyUse) → (h : TakesKeyAt (operation_of service caller handle) step wanted) →
    input_key service caller handle (part_of derivation_part (operation_of service caller handle)) step id
    ≡ input_by service caller handle h.w (map.get service.store.keys id) id true (use_refusal wanted (map.get service.store.keys id))
looked_at service caller handle step id wanted h = search rules

pub inputs : KeyInputsAreTheModels
inputs = record {
  untimely = λ service caller handle step id refuses. untimely_of service caller handle step id (part_of derivation_part (operation_of service caller handle)) refuses;
  unfit = λ service caller handle step id wanted status h refused.
      looked_at service caller handle step id wanted h
      ∙ ap (input_by service caller handle h.w (map.get service.store.keys id) id true) refused;
  taken = λ service caller handle step id wanted w h derives passes.
      looked_at service caller handle step id wanted h
      ∙ ap (input_by service caller handle h.w (map.get service.store.keys id) id true) passes
      ∙ ap (λ v. input_by service caller handle v (map.get service.store.keys id) id true None) (same_work h.w w (sym h.derives ∙ derives));
}
