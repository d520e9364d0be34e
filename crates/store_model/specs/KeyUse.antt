-- Calls on a key that is there.
use Rattle.std.specs.Prelude.{ℕ, true, not, nat_lt, ◌==◌, ◌&&◌, List, [], ◌∷◌, length, bit_and, Option, Some, None, is_some}
use Rattle.store_model.specs.Common.{BufferTooSmall, Description, InvalidHandle, Key, NotPermitted, NotSupported, Outcome, Reply, Rows, Store, Success, counted, done, first_row, given, is_opaque, option_map_or, refusal, reply_unless}
use Rattle.std.specs.FinMap as map

-- EXPORT, whose flag is 1, of a key that no secure element holds
abbrev pub export_rows : Option Key → ℕ → Rows
export_rows None room = (true, InvalidHandle) ∷ []
export_rows (Some key) room =
    (bit_and key.attributes.policy.usage.0 1 == 0, NotPermitted)
    ∷ (is_opaque key.attributes, NotSupported)
    ∷ (nat_lt room (length key.bytes), BufferTooSmall)
    ∷ []

abbrev pub bytes_of_key : Option Key → List ℕ
bytes_of_key found = option_map_or (λ key. key.bytes) found []

abbrev pub export_reply : Option Key → ℕ → Reply
export_reply found room = reply_unless (first_row (export_rows found room)) (given (bytes_of_key found))

-- GET ATTRIBUTES

abbrev pub attributes_reply : Option Key → Reply
attributes_reply None = refusal InvalidHandle
attributes_reply (Some key) = record { status = Success; output = Description key.attributes; needed = 0 }

-- DESTROY: destroying no key succeeds

abbrev pub destroy_rows : Option Key → ℕ → Rows
destroy_rows found id = (not (id == 0) && not (is_some found), InvalidHandle) ∷ []

abbrev pub destroyed : Store → ℕ → Outcome
destroyed store id = record { store = record (counted store) { keys = map.remove store.keys id }; reply = done; drawn = 0 }

-- PURGE: a key that is kept in a file leaves the memory, which is nothing to the model

abbrev pub purge_reply : Option Key → Reply
purge_reply None = refusal InvalidHandle
purge_reply (Some key) = done
