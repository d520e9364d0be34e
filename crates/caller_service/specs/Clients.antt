-- What is known of a call that a client makes.
use Rattle.std.specs.Prelude.{◌≡◌, ℕ, List}
use Rattle.service_calls.specs.{declared.call.Call.Call, declared.output.Output.Output}
use Rattle.disk_face.specs.declared.Disk as Disk
use Rattle.driver_dispatch.specs.declared.devices.Devices as Devices
use Rattle.admission.specs.declared.rules.Admission as Admission
use Rattle.caller_service.specs.{declared.client.Client.Client, declared.replies.Reply.Reply, Replies.IsReply}

module _ {D A C G R : Type 0} {d : Disk.Ghosts D} {a : Devices.Ghosts A} {c : Admission.Ghosts C} where
  -- the client's caller made this call of its service, and has this reply
  pub record Answers {T : Type 0} (call : Call) (given : Output → T) (old new : Client D A C G R d a c) (out_old out_new : List ℕ) (reply : Reply T) : Type 0 where
    pub service : new.service.now ≡ old.service.now
    pub reply_is : IsReply old.service.now call given old.caller new.caller out_old out_new reply
