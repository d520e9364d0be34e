-- What a call answers that the secure element computes, and what it leaves in its output buffer.
use Rattle.std.specs.Prelude.{ℕ, ◌≡◌, ⊤, List, length, drop, Option, Result, Ok, Err, MatchOption}
use Rattle.psa_status.specs.{declared.Status.Status, declared.Status.TheVariants.HardwareFailure, declared.Status.TheVariants.InvalidSignature, Rows.first_row}
use Rattle.driver_dispatch.specs.{Held.HeldKeys, Calls.HoldsHandle}
use Rattle.store_model.specs.Prelude.{Nothing, Reply, buffer_after, FaultMark, Hardware, Plain, marked_reply, done}
use Rattle.service_calls.specs.Answers.{GivesBytes}
use Rattle.secure_element_calls.specs.{declared.calls.ElementCall.ElementCall, declared.calls.ElementCall.TheVariants.MacVerify, declared.calls.NotComputed.NotComputed, declared.calls.NotComputed.TheVariants.Refused, declared.calls.NotComputed.TheVariants.Failed, Calls.element_reply, Calls.needed_by, Calls.rows_before}

abbrev pub not_computed_status : NotComputed → Status
not_computed_status (Refused status) = status
not_computed_status Failed = HardwareFailure

-- the mark of an answer: of the driver, where it failed
abbrev pub mark_computed : Result ℕ NotComputed → FaultMark
mark_computed (Err Failed) = Hardware
mark_computed _ = Plain

-- the answer is that of the reply: how many bytes the call gives, where it gives any, or the status of its refusal
abbrev pub AnswersCall : ElementCall → Result ℕ NotComputed → Reply → Type 0
AnswersCall (MacVerify alg input mac) (Ok n) reply = (n ≡ 0) × (reply ≡ done)
AnswersCall call (Ok n) reply = GivesBytes n reply
AnswersCall call (Err why) reply = (reply.status ≡ not_computed_status why) × (reply.output ≡ Nothing)

-- what a call may answer that is refused by no row before the element is asked
abbrev pub IsOfElement : ElementCall → Result ℕ NotComputed → Type 0
IsOfElement call (Ok n) = n ≡ needed_by call
IsOfElement call (Err Failed) = ⊤
IsOfElement (MacVerify alg input mac) (Err (Refused status)) = status ≡ InvalidSignature
IsOfElement call (Err (Refused status)) = ⊥

-- an answer that a device gave: the bytes, or that a MAC isn't the message's
abbrev pub IsOfServed : Result ℕ NotComputed → Type 0
IsOfServed (Ok n) = ⊤
IsOfServed (Err (Refused status)) = status ≡ InvalidSignature
IsOfServed (Err Failed) = ⊥

-- and a refusal for which the device wasn't asked
abbrev pub IsRefusedBefore : Result ℕ NotComputed → Type 0
IsRefusedBefore (Err (Refused status)) = status ≡ InvalidSignature → ⊥
IsRefusedBefore _ = ⊥

-- the model's reply with the mark of the answer
abbrev pub reply_to : ElementCall → Result ℕ NotComputed → (key : List ℕ) → (room : ℕ) → Reply
reply_to call result key room = marked_reply (mark_computed result) (element_reply call key room)

-- What a call answers, and what it makes of its output buffer, on the key under a handle. A device that doesn't tell its keys
-- may answer anything that it computes; what is refused before, how much is given, and what a failure leaves, is the model's.
pub record IsComputed (held : Option HeldKeys) (handle : ℕ) (call : ElementCall) (old new : List ℕ) (result : Result ℕ NotComputed) : Type 0 where
  pub decided : MatchOption (first_row (rows_before call (length old))) (IsOfElement call result) (λ status. result ≡ Err (Refused status))
  pub reply : HoldsHandle held handle (λ key. AnswersCall call result (reply_to call result key.bytes (length old)))
  pub buffer : HoldsHandle held handle (λ key. new ≡ buffer_after old (reply_to call result key.bytes (length old)))
  pub spoilt : (key : List ℕ) → result ≡ Err Failed → new ≡ buffer_after old (reply_to call result key (length old))
  pub kept : (status : Status) → result ≡ Err (Refused status) → new ≡ old
  pub rest : drop (needed_by call) new ≡ drop (needed_by call) old
