-- COPY: a key of the source's bytes, with the meet of its policy and the stated one.
use Rattle.std.specs.Prelude.{ℕ, Bool, not, ◌&&◌, ◌||◌, ◌==◌, [], ◌∷◌, length, bit_and, Option, Some, None, ok_or, Result, Err}
use Rattle.store_model.specs.{Common.Attributes, Common.InvalidArgument, Common.InvalidHandle, Common.Key, Common.NotPermitted, Common.NotSupported, Common.Policy, Common.Rows, Common.Status, Common.Store, Common.first_row, Common.location, Common.meet_of, Common.unless, Common.◌>>=◌, Creation.recorded_of}

-- a stated number, where 0 states none, that isn't the source's
abbrev pub differs : ℕ → ℕ → Bool
differs stated own = not (stated == 0) && not (stated == own)

-- the refusals that the source and the stated attributes decide; the flag COPY is 2
abbrev pub source_rows : Attributes → Attributes → Rows
source_rows source stated =
    (bit_and source.policy.usage.0 2 == 0, NotPermitted)
    ∷ (differs stated.key_type.0 source.key_type.0 || differs stated.bits source.bits, InvalidArgument)
    ∷ (not (location stated.lifetime.0 == location source.lifetime.0), NotSupported)
    ∷ []

-- the attributes that the table of creations checks: the source's type and bits, the stated lifetime and identifier
abbrev pub copy_attributes : Attributes → Attributes → Policy → Attributes
copy_attributes source stated met = record { lifetime = stated.lifetime; id = stated.id; key_type = source.key_type; bits = source.bits; policy = met }

-- what a copy of what the map has at the source's identifier records, or its first refusal
abbrev pub recorded_copy : Store → ℕ → Option Key → Attributes → Result Attributes Status
recorded_copy store caller None stated = Err InvalidHandle
recorded_copy store caller (Some source) stated = do
  own ← unless (first_row (source_rows source.attributes stated)) source.attributes
  met ← ok_or (meet_of own.policy stated.policy) InvalidArgument
  recorded_of store caller (copy_attributes own stated met) (length source.bytes)
