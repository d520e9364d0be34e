-- What is known of a call that is made by its name.
use Rattle.std.specs.{Prelude.◌≡◌, Prelude.◌≤◌, Prelude.ℕ, Prelude.List, Prelude.IfSome, Prelude.IfNone, Prelude.length, Prelude.Result, Result.result_map_both}
use Rattle.psa_status.specs.declared.Status.{Status}
use Rattle.service_calls.specs.{declared.call.Call.Call, declared.call.Call.TheVariants.OnHandle, declared.steps.Step.Step, declared.output.Output.Output, Meanings.model_request}
use Rattle.service_calls.specs.declared.handle_calls.HandleCall.TheVariants as handle_call
use Rattle.callers.specs.{Prelude.HasCounted, Prelude.IsAnswered, Prelude.IsOverBudget, Prelude.IsReady, declared.caller.Caller.Caller}
use Rattle.disk_face.specs.declared.Disk as Disk
use Rattle.driver_dispatch.specs.declared.devices.Devices as Devices
use Rattle.admission.specs.declared.rules.Admission as Admission
use Rattle.locked_store.specs.Prelude.{world}
use Rattle.caller_service.specs.{declared.replies.Reply.Reply, declared.service.Service.Service}

-- a step of the operation at a handle
abbrev pub steps_on : (op : ℕ) → Step → Call
steps_on op step = OnHandle op (handle_call.Step step)

-- what is read of an answer; a refusal stays as it is
abbrev pub reads : {T : Type 0} → (Output → T) → Result Output Status → Result T Status
reads given answer = result_map_both given (λ status. status) answer

module _ {D A C G : Type 0} {d : Disk.Ghosts D} {a : Devices.Ghosts A} {c : Admission.Ghosts C} (service : Service D A C G d a c) where
  -- A caller may call: it is between its calls, and what they counted is within the budget.
  pub record MayCall (caller : Caller D A C) : Type 0 where
    pub ready : IsReady (world service.shared) 0 caller
    pub within : caller.spent ≤ service.worn

  -- A caller made this call, with an output buffer, and may call again. Its reply is read of an answer: with a rank that is the
  -- answer of the call's value there, and it has counted; without one the budget doesn't suffice for the call, and nothing has
  -- changed.
  pub record IsReply {T : Type 0} (call : Call) (given : Output → T) (old new : Caller D A C) (out_old out_new : List ℕ) (reply : Reply T) : Type 0 where
    pub answer : Result Output Status
    pub given_is : reply.result ≡ reads given answer
    pub again : MayCall new
    pub ranked : IfSome reply.rank (λ rank. IsAnswered (world service.shared) old.pass.me.0 new.pass.me.0 (model_request call (length out_old)) rank answer out_old out_new)
    pub counts : IfSome reply.rank (λ rank. HasCounted old new service.worn call answer)
    pub worn : IfNone reply.rank (IsOverBudget old new service.worn call answer out_old out_new)
