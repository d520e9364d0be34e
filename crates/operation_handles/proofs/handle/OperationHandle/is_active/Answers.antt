use Rattle.operation_handles.proofs.handle.OperationHandle.is_active.Goals as goal

pub returns : goal.returns
returns c = λ operation h. c.is_active.ensures h.key operation h.are
