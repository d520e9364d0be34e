-- What a call answers, as a reply of the model.
use Rattle.std.specs.Prelude.{ℕ, ◌≡◌, Result, Ok, Err}
use Rattle.psa_status.specs.{declared.Status.Status, declared.Status.TheVariants.Success}
use Rattle.store_model.specs.Call as model
use Rattle.service_calls.specs.{Answers.GivesBytes, declared.output.Output.Output}
use Rattle.store_model.specs.Prelude.{Reply, Nothing, refusal, done}
use Rattle.service_calls.specs.declared.output.Output.TheVariants as output

-- a call that gives a number
abbrev pub number_reply : Result ℕ Status → Reply
number_reply (Ok n) = record { status = Success; output = model.Number n; needed = 0 }
number_reply (Err status) = refusal status

-- The answer is that of the reply. Of bytes it is their count, and of a refusal, which may leave zeros in an output
-- buffer, its status; what the buffer holds is said beside it.
abbrev pub AnswersReply : Result Output Status → Reply → Type 0
AnswersReply (Ok output.Done) reply = reply ≡ done
AnswersReply (Ok (output.Identifier id)) reply = reply ≡ record { status = Success; output = model.Identifier id.0; needed = 0 }
AnswersReply (Ok (output.Description attributes)) reply = reply ≡ record { status = Success; output = model.Description attributes; needed = 0 }
AnswersReply (Ok (output.Bytes n)) reply = GivesBytes n reply
AnswersReply (Ok (output.Number n)) reply = reply ≡ record { status = Success; output = model.Number n; needed = 0 }
AnswersReply (Err status) reply = (reply.status ≡ status) × (reply.output ≡ Nothing)
