use Rattle.operation_handles.proofs.Leases.{inactive}
use Rattle.operation_handles.proofs.handle.OperationHandle.wipe.Goals as goal

pub returns-clause-state : goal.returns-clause-state
returns-clause-state c = inactive _ c.wipe.ensures c.take.ensures.after
