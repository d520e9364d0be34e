-- What is printed of the answers to calls.
use Rattle.std.specs.Prelude.{ℕ, ◌≡◌, ◌∷◌, ◌++◌, List, [], take, Result, Ok, Err}
use Rattle.psa_status.specs.{declared.Status.Status, declared.Status.TheVariants.Success}
use Rattle.service_calls.specs.{Answered.AnswersReply, declared.output.Output.Output}
use Rattle.service_calls.specs.declared.output.Output.TheVariants as output
use Rattle.store_model.specs.Call as model
use Rattle.store_model.specs.Prelude.{Reply, buffer_after, done, given, output_bytes, refusal}
use Rattle.script_lang.specs.{Prelude.AreKept, Prelude.ReplyLine, Prelude.id_given, Prelude.next_line, declared.replies.Replies.Replies}

-- what is printed of an answer, as a reply; bytes are those with which the output buffer then begins
abbrev pub reply_of : Result Output Status → (out : List ℕ) → Reply
reply_of (Ok output.Done) out = done
reply_of (Ok (output.Identifier id)) out = record { status = Success; output = model.Identifier id.0; needed = 0 }
reply_of (Ok (output.Description attributes)) out = record { status = Success; output = model.Description attributes; needed = 0 }
reply_of (Ok (output.Bytes count)) out = given (take count out)
reply_of (Ok (output.Number number)) out = record { status = Success; output = model.Number number; needed = 0 }
reply_of (Err status) out = refusal status

-- two replies are printed alike, and give the same identifier
pub record ArePrintedAlike (one other : Reply) : Type 0 where
  pub status : one.status ≡ other.status
  pub bytes : output_bytes one.output ≡ output_bytes other.output
  pub id : id_given one.output ≡ id_given other.output

-- what is known of a call that was made with an output buffer: its answer, and the buffer after it
pub record Fills (answer : Result Output Status) (out : List ℕ) (reply : Reply) : Type 0 where
  pub answers : AnswersReply answer reply
  pub before : List ℕ
  pub after : out ≡ buffer_after before reply

-- a session's replies have one line more, at this rank
abbrev pub NotesLine : (old new : Replies) (rank : ℕ) → Status → (bytes : List ℕ) → Type 0
NotesLine old new rank status bytes = (lines : List ReplyLine) → AreKept old lines → AreKept new (lines ++ next_line old rank status bytes ∷ [])

-- it is that of a reply, which gave this identifier, or 0
pub record IsNoted (old new : Replies) (rank : ℕ) (reply : Reply) (id : ℕ) : Type 0 where
  pub line : NotesLine old new rank reply.status (output_bytes reply.output)
  pub id_is : id ≡ id_given reply.output
