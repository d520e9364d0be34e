-- What calls say of devices that failed.
use Rattle.std.specs.Prelude.{Option, Some, None, Result, Ok, Err}
use Rattle.psa_status.specs.{declared.Status.Status, declared.Status.TheVariants.StorageFailure, declared.Status.TheVariants.HardwareFailure, declared.Status.TheVariants.DataCorrupt}
use Rattle.service_calls.specs.declared.output.Output.{Output}
use Rattle.store_model.specs.Prelude.{FaultMark, done, marked_reply}

-- the failure that a status tells of: the disk's, a driver's, or bytes that were no record
abbrev pub failure_told : Status → Option Status
failure_told StorageFailure = Some StorageFailure
failure_told HardwareFailure = Some HardwareFailure
failure_told DataCorrupt = Some DataCorrupt
failure_told _ = None

-- that which a result tells of
abbrev pub failure_in : Result Output Status → Option Status
failure_in (Ok output) = None
failure_in (Err status) = failure_told status

-- that of which a mark is: a call with the mark tells of it
abbrev pub failure_marked : FaultMark → Option Status
failure_marked mark = failure_told (marked_reply mark done).status
