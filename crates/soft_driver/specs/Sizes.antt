-- What holds of the keys that are held.
use Rattle.std.specs.Prelude.{ℕ, Bool, ◌==◌, IsTrue, length}
use Rattle.std.specs.FinMap as map
use Rattle.key_attributes.specs.Checks.{permits_size}
use Rattle.driver_dispatch.specs.Held.{HeldKey, HeldKeys}

-- there is room for 4,096 keys
abbrev pub room : ℕ
room = 4096

abbrev pub is_room_full : HeldKeys → Bool
is_room_full held = map.len held == room

-- the type permits so many bytes
abbrev pub IsSized : HeldKey → Type 0
IsSized key = IsTrue (permits_size key.key_type (length key.bytes))
