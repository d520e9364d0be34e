-- What the model replies to a call that the secure element computes.
use Rattle.std.specs.Prelude.{ℕ, ◌≡◌, true, List, ◌++◌, Option, None}
use Rattle.std.specs.FinMap as map
use Rattle.psa_status.specs.Rows.{Rows, first_row}
use Rattle.store_model.specs.Prelude.{Key, is_opaque_key, Reply, reply_unless, bytes_of_key, use_rows, Service, next_random, OnStore, plain_step, asks_device}
use Rattle.secure_element_calls.specs.{declared.calls.ElementCall.ElementCall, declared.calls.ElementCall.TheVariants.CtrEncrypt, Calls.algorithm_asked, Calls.class_asked, Calls.element_reply, Calls.model_call, Calls.rows_before, Calls.usage_asked}

-- the refusals of the use of what the map has at the key's identifier
abbrev pub key_rows : ElementCall → Option Key → Rows
key_rows call found = use_rows true (class_asked call) (usage_asked call) (algorithm_asked call) found

-- all that are decided before the element is asked
abbrev pub all_rows : ElementCall → (room : ℕ) → Option Key → Rows
all_rows call room found = key_rows call found ++ rows_before call room

abbrev pub reply_on : ElementCall → (room : ℕ) → Option Key → Reply
reply_on call room found = reply_unless (first_row (key_rows call found)) (element_reply call (bytes_of_key found) room)

-- an initialisation vector is the caller's next random bytes
abbrev pub HasDrawn : ElementCall → (random : List ℕ) → Type 0
HasDrawn (CtrEncrypt iv input) random = iv.now ≡ random
HasDrawn _ random = Unit {0}

abbrev pub RepliesAreTheModels : Type 0
RepliesAreTheModels =
    (service : Service) (caller id room : ℕ) (call : ElementCall) → HasDrawn call (next_random service caller 16) →
    (plain_step service caller (OnStore (model_call call id room))).reply ≡ reply_on call room (map.get service.store.keys id)

-- a call on a key of the element that no row refuses before asks for the device
abbrev pub AsksDevice : Type 0
AsksDevice =
    (service : Service) (caller id room : ℕ) (call : ElementCall) → is_opaque_key (map.get service.store.keys id) ≡ true →
    first_row (all_rows call room (map.get service.store.keys id)) ≡ None → asks_device service caller (OnStore (model_call call id room)) ≡ true
