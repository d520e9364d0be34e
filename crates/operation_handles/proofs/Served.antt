-- Setups and steps on a handle, as the service serves them.
use Rattle.operation_handles.proofs.Common.{Active, After, Alg, BadState, InError, Inactive, Operation, Own, Purpose, Service, SetupsAreTheModels, Status, StepsAreTheModels, Work, applied, counted, handle_step, has_live_key, model_keyed_setup, on_part, operation_of, own_of, refusal, set_up_with_key, stays, stepped, untouched, with_own, ap, refl, sym, ℕ, ◌∙◌, ◌≡◌}
use Rattle.store_model.proofs.Operations.{same_own, same_service}
use Rattle.key_attributes.specs.declared.KeyId.{KeyId}
use Rattle.service_calls.specs.declared.handle_calls.KeylessSetup.TheVariants as keyless
use Rattle.service_calls.specs.{declared.handle_calls.Purpose.TheVariants.SignMac, declared.handle_calls.Setup.TheVariants.Keyless, declared.handle_calls.Setup.TheVariants.Keyed}
use Rattle.service_calls.specs.declared.steps.Step.TheVariants as steps

-- an operation that stays as it was
pub untouched_is : (service : Service) (caller handle : ℕ) (status : Status) → untouched service status ≡ applied service caller handle (stays (operation_of service caller handle) status)
untouched_is service caller handle status =
    sym (ap (λ (own : Own). record { service = with_own service (counted service.store) caller own; reply = refusal status }) (same_own (own_of service caller) handle)
    ∙ ap (λ (s : Service). record { service = s; reply = refusal status }) (same_service service (counted service.store) caller))

pub stepped_is : {W : Type 0} (service : Service) (caller handle : ℕ) (embed : W → Work) (own : Operation W) (f : W → After W) →
    stepped service caller handle embed own f ≡ applied service caller handle (on_part (operation_of service caller handle) embed own (has_live_key service caller handle) f)
stepped_is service caller handle embed (Active w) f = refl
stepped_is service caller handle embed Inactive f = untouched_is service caller handle BadState
stepped_is service caller handle embed InError f = untouched_is service caller handle BadState

-- a setup with a key, by what it is for
with_key : (service : Service) (caller handle : ℕ) (purpose : Purpose) (key : KeyId) (alg : Alg) →
    handle_step service caller handle (model_keyed_setup purpose key.0 alg.0)
    ≡ applied service caller handle (set_up_with_key service.store (operation_of service caller handle) (record { key = key; purpose = purpose; alg = alg }))
with_key service caller handle SignMac key alg = refl
with_key service caller handle _ key alg = refl

pub setups : SetupsAreTheModels
setups service caller handle (Keyless (keyless.Hash alg)) = refl
setups service caller handle (Keyless (keyless.Derivation alg)) = refl
setups service caller handle (Keyed setup) = with_key service caller handle setup.purpose setup.key setup.alg

pub steps_are : StepsAreTheModels
steps_are service caller handle (steps.Hash s) room = stepped_is service caller handle _ _ _
steps_are service caller handle _ room = stepped_is service caller handle _ _ _
