-- What is recorded of a copy, by the attributes with which it is asked for.
use Rattle.std.specs.Prelude.{ℕ, Result}
use Rattle.psa_status.specs.{declared.Status.Status, Rows.◌>>=◌}
use Rattle.key_attributes.specs.declared.Attributes.{Attributes}
use Rattle.store_model.specs.Prelude.{Store, recorded_of}

-- what the table of creations makes of them, or the refusal that came before it
abbrev pub recorded_after : Store → (caller bytes : ℕ) → Result Attributes Status → Result Attributes Status
recorded_after store caller bytes copy = copy >>= (λ a. recorded_of store caller a bytes)
