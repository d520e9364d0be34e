-- What a turn answers, as a reply of the model.
use Rattle.std.specs.Prelude.{ℕ, ◌≡◌, Result, Ok, Err, length}
use Rattle.psa_status.specs.{declared.Status.Status, declared.Status.TheVariants.Success}
use Rattle.key_attributes.specs.{declared.KeyId.KeyId, declared.Attributes.Attributes}
use Rattle.store_model.specs.Prelude.{Reply, Nothing, Identifier, Description, Bytes, buffer_bytes, refusal, done}

-- a creation answers the identifier
abbrev pub id_reply : Result KeyId Status → Reply
id_reply (Ok id) = record { status = Success; output = Identifier id.0; needed = 0 }
id_reply (Err status) = refusal status

-- success, with so many bytes
abbrev pub GivesBytes : ℕ → Reply → Type 0
GivesBytes n reply = (reply.status ≡ Success) × (n ≡ length (buffer_bytes reply.output)) × (reply.output ≡ Bytes (buffer_bytes reply.output))

-- a call with an output buffer answers how many bytes its output has
abbrev pub AnswersLength : Result ℕ Status → Reply → Type 0
AnswersLength (Ok n) reply = GivesBytes n reply
AnswersLength (Err status) reply = reply ≡ refusal status

-- a call that answers attributes
abbrev pub attributes_answer : Result Attributes Status → Reply
attributes_answer (Ok attributes) = record { status = Success; output = Description attributes; needed = 0 }
attributes_answer (Err status) = refusal status

-- a call that answers nothing but its status
abbrev pub plain_reply : Result (Unit {0}) Status → Reply
plain_reply (Ok unit) = done
plain_reply (Err status) = refusal status

-- a call whose refusal may leave zeros in its output buffer; what the buffer holds is said beside it
abbrev pub AnswersOrSpoils : Result ℕ Status → Reply → Type 0
AnswersOrSpoils (Ok n) reply = GivesBytes n reply
AnswersOrSpoils (Err status) reply = (reply.status ≡ status) × (reply.output ≡ Nothing)
