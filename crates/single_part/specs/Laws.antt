-- What the calls that are computed here are in the model.
use Rattle.std.specs.Prelude.{◌≡◌, ◌≤◌, ℕ, true, false, List, Some, None}
use Rattle.std.specs.FinMap as map
use Rattle.psa_status.specs.declared.Status.TheVariants.{Success}
use Rattle.store_model.specs.Prelude.{Store, is_opaque_key, Random, bytes_of_key, Outcome, computed_unless, replies, with_computed, step, Service, OnStore, id_read, may_change_keys}
use Rattle.key_policy.specs.Uses.{use_refusal}
use Rattle.service_calls.specs.{Meanings.model_hash_call, Meanings.model_keyed_call, declared.store_calls.HashCall.HashCall, declared.store_calls.KeyedCall.KeyedCall}
use Rattle.single_part.specs.{Keyed.computed_by, Keyed.vector_length, Keyed.wanted_by, Elements.is_of_element, Hashing.hash_computed_by}

-- a call whose key the secure element doesn't hold, or doesn't compute with: the first refusal of the key's use, and else what is
-- computed with its bytes
abbrev pub KeyedCallsAreTheModels : Type 0
KeyedCallsAreTheModels =
    (store : Store) (caller : ℕ) (random : Random) (call : KeyedCall) (id room : ℕ) →
    (is_of_element call ≡ true → is_opaque_key (map.get store.keys id) ≡ false) →
    step store caller random (model_keyed_call call id room)
    ≡ with_computed store (computed_unless (use_refusal (wanted_by call) (map.get store.keys id)) (computed_by call (bytes_of_key (map.get store.keys id)) random room))

-- a call with a key reads it, and changes no key
abbrev pub KeyedCallsRead : Type 0
KeyedCallsRead =
    (service : Service) (caller : ℕ) (call : KeyedCall) (id room : ℕ) →
    (id_read service caller (OnStore (model_keyed_call call id room)) ≡ Some id) × (may_change_keys (OnStore (model_keyed_call call id room)) ≡ false)

-- no call with a key draws more than an initialisation vector
abbrev pub DrawsAVector : Type 0
DrawsAVector = (call : KeyedCall) (key : List ℕ) (random : Random) (room : ℕ) → (computed_by call key random room).drawn ≤ 16

-- whoever computes it, a call with a key draws its vector where it succeeds, and nothing where it is refused
abbrev pub DrawsOnSuccess : Type 0
DrawsOnSuccess =
    (store : Store) (caller : ℕ) (random : Random) (call : KeyedCall) (id room : ℕ) →
    let outcome : Outcome = step store caller random (model_keyed_call call id room) in
    (outcome.reply.status ≡ Success → outcome.drawn ≡ vector_length call) × ((outcome.reply.status ≡ Success → ⊥) → outcome.drawn ≡ 0)

-- a hash is the model's
abbrev pub HashCallsAreTheModels : Type 0
HashCallsAreTheModels =
    (store : Store) (caller : ℕ) (random : Random) (call : HashCall) (room : ℕ) →
    step store caller random (model_hash_call call room) ≡ with_computed store (replies (hash_computed_by call room))

-- and reads no key, nor changes one
abbrev pub HashCallsRead : Type 0
HashCallsRead =
    (service : Service) (caller : ℕ) (call : HashCall) (room : ℕ) →
    (id_read service caller (OnStore (model_hash_call call room)) ≡ None) × (may_change_keys (OnStore (model_hash_call call room)) ≡ false)
