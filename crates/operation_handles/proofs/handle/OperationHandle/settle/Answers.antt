use Rattle.std.proofs.Common.{false, refl, sym, true, ◌∙◌, ◌≡◌}
use Rattle.operation_handles.proofs.Leases.{settled}
use Rattle.operation_handles.proofs.handle.OperationHandle.settle.Goals as goal

pub returns-clause-state : goal.returns-clause-state
returns-clause-state c = λ operation h. settled c.args.self.now _ operation refl c.take.ensures.after (sym (c.is_active.ensures h.key operation h.are) ∙ c.if-is_active.false) h

pub returns-then-is_active-clause-over : goal.returns-then-is_active-clause-over
returns-then-is_active-clause-over c = λ operation h ended. absurd (let e : true ≡ false = sym c.if-is_active.true ∙ c.is_active.ensures h.key operation h.are ∙ ended in cc)

pub returns-clause-active : goal.returns-clause-active
returns-clause-active c = λ operation h active. absurd (let e : false ≡ true = sym c.if-is_active.false ∙ c.is_active.ensures h.key operation h.are ∙ active in cc)
