-- What a reply reads of a successful answer, by its type. Each is total, and of another kind of answer it is 0.
use Rattle.std.specs.Prelude.{ℕ}
use Rattle.key_attributes.specs.{declared.KeyId.KeyId, declared.Attributes.Attributes}
use Rattle.slot_table.specs.Slots.{no_attributes}
use Rattle.service_calls.specs.declared.output.Output.{Output}
use Rattle.service_calls.specs.declared.output.Output.TheVariants as output

abbrev pub nothing : Output → Unit {0}
nothing _ = tt

abbrev pub identifier_of : Output → KeyId
identifier_of (output.Identifier id) = id
identifier_of _ = record { 0 = 0 }

-- how many bytes
abbrev pub length_of : Output → ℕ
length_of (output.Bytes count) = count
length_of _ = 0

abbrev pub number_of : Output → ℕ
number_of (output.Number number) = number
number_of _ = 0

abbrev pub description_of : Output → Attributes
description_of (output.Description attributes) = attributes
description_of _ = no_attributes
