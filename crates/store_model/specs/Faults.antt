-- What is noted of a call in whose turn a device failed.
use Rattle.std.specs.Prelude.{Bool, true, false}
use Rattle.psa_status.specs.{declared.Status.Status, declared.Status.TheVariants.StorageFailure, declared.Status.TheVariants.HardwareFailure, declared.Status.TheVariants.DataCorrupt}
use Rattle.store_model.specs.{Call.Reply, Outcome.refusal, Outcome.spoiled}

-- how the disk was used as it failed: read, or written. A persistent creation or destruction that failed
-- at a write tells whether all cells that were in doubt before had been closed in its turn.
pub data StorageAccess : Type 0 where
  Reading : StorageAccess
  Writing : (closed_first : Bool) → StorageAccess

-- the mark of a call: no device failed, the disk did, a driver did, or bytes that were read were no record
pub data FaultMark : Type 0 where
  Plain : FaultMark
  Storage : (access : StorageAccess) → FaultMark
  Hardware : FaultMark
  Corrupt : FaultMark

-- The reply of a call with a mark, by that of one in whose turn no device failed. A driver's failure leaves zeros in the
-- output buffer, as many as were needed.
abbrev pub marked_reply : FaultMark → Reply → Reply
marked_reply Plain reply = reply
marked_reply (Storage access) reply = refusal StorageFailure
marked_reply Hardware reply = spoiled HardwareFailure reply.needed
marked_reply Corrupt reply = refusal DataCorrupt

-- the statuses of failed devices
abbrev pub is_of_fault : Status → Bool
is_of_fault StorageFailure = true
is_of_fault HardwareFailure = true
is_of_fault DataCorrupt = true
is_of_fault _ = false
