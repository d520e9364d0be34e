-- Calls that create a key.
use Rattle.std.specs.Prelude.{ℕ, ◌+◌, ◌/◌, ◌%◌, ◌^◌, not, nat_le, ◌==◌, ◌||◌, ◌&&◌, List, [], ◌∷◌, slice_set, is_some, Result, Ok, Err, if◌then◌else◌}
use Rattle.std.specs.FinMap as map
use Rattle.store_model.specs.Common.{AlreadyExists, Attributes, Identifier, InsufficientStorage, InvalidArgument, Key, KeyLimit, Outcome, Rows, Status, Store, Success, after_rules, checked, counted, first_row, has_secure_element, is_volatile, lacks_room, live_volatile, made_of, next_volatile, refused, unless, ◌>>=◌}

-- a caller has at most 16 live volatile keys, and makes at most 2^20; persistent keys are as many as the limits say, with an identifier each
abbrev pub room_for_key_rows : Store → ℕ → Attributes → Rows
room_for_key_rows store caller a =
    (is_volatile a && (nat_le 16 (live_volatile store.keys caller) || nat_le (2 ^ 20) (made_of store caller)), KeyLimit)
    ∷ (not (is_volatile a) && is_some (map.get store.keys a.id.0), AlreadyExists)
    ∷ (not (is_volatile a) && lacks_room store a.id.0, InsufficientStorage)
    ∷ []

-- What a creation of a key with these stated attributes and so many bytes records, or its first refusal: the attributes
-- are checked, and filled in, each rule narrows them in turn, and the store has room.
abbrev pub recorded_of : Store → ℕ → Attributes → ℕ → Result Attributes Status
recorded_of store caller a bytes = do
  filled ← checked a bytes (has_secure_element store)
  kept ← after_rules store.settings.labels filled
  unless (first_row (room_for_key_rows store caller kept)) kept

-- the bytes of a key with these stated bits, and the refusal of bits that state none
abbrev pub stated_bytes : Attributes → ℕ
stated_bytes a = a.bits / 8

abbrev pub stated_bits_rows : Attributes → Rows
stated_bits_rows a = (a.bits == 0 || not (a.bits % 8 == 0), InvalidArgument) ∷ []

abbrev pub identified : Attributes → ℕ → Attributes
identified a id = record a { id = record { 0 = id } }

-- a volatile key has the caller's next identifier, and a persistent one that which was stated
abbrev pub new_id : Store → ℕ → Attributes → ℕ
new_id store caller kept = if is_volatile kept then next_volatile store caller else kept.id.0

-- The call's place in the order gives the creation number. What is recorded has the key's identifier.
abbrev pub new_key : Store → ℕ → ℕ → Attributes → List ℕ → Key
new_key store caller id kept bytes = record { number = store.found + store.calls; attributes = identified kept id; bytes = bytes; creator = caller }

-- how many volatile keys each caller has made, with one more of this one where the new key is volatile
abbrev pub made_with : Store → ℕ → Attributes → List ℕ
made_with store caller kept = if is_volatile kept then slice_set store.made caller (made_of store caller + 1) else store.made

-- a key comes into being with the attributes that are recorded
abbrev pub created : Store → ℕ → Attributes → List ℕ → Outcome
created store caller kept bytes =
    let id = new_id store caller kept in
    record {
      store = record (counted store) { keys = map.insert store.keys id (new_key store caller id kept bytes); made = made_with store caller kept };
      reply = record { status = Success; output = Identifier id; needed = 0 };
      drawn = 0;
    }

abbrev pub created_unless : Store → ℕ → Result Attributes Status → List ℕ → Outcome
created_unless store caller (Ok kept) bytes = created store caller kept bytes
created_unless store caller (Err status) bytes = refused store status
