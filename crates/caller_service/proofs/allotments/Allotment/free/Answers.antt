use Rattle.caller_service.proofs.Common.{All-pop, Inactive, IsOperation, None, ◌≡◌}
use Rattle.caller_service.proofs.allotments.Allotment.free.Goals as goal

pub loop-handle-preserved : goal.loop-handle-preserved
loop-handle-preserved c = (All-pop (λ x. IsOperation x Inactive × (x.lease ≡ None)) c.loop-handle.handles.items c.pop.new.self.items c.pop.result c.pop.ensures.items c.loop-handle.invariant).0
