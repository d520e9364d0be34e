use Rattle.std.proofs.Common.{refl}
use Rattle.operation_handles.proofs.Leases.{inactive}
use Rattle.operation_handles.proofs.handle.OperationHandle.new.Goals as goal

pub returns-clause-state : goal.returns-clause-state
returns-clause-state c = inactive _ c.requires refl
