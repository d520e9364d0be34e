use Rattle.operation_handles.proofs.handle.OperationHandle.is_inactive.Goals as goal

pub returns : goal.returns
returns c = λ operation h. c.is_inactive.ensures h.key operation h.are
