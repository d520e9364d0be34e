use Rattle.operation_handles.proofs.{Common.AreStates, Common.begun_with, Common.Some, Common.subst, Common.sym, Leases.begun_keyed}
use Rattle.operation_handles.proofs.handle.OperationHandle.begin_with.Goals as goal

pub returns-clause-state : goal.returns-clause-state
returns-clause-state c = λ operation key h number.
    begun_keyed c.args.self.now c.keep.new.self operation c.args.purpose c.args.alg c.args.lease key (c.requires.free operation h) c.keep.ensures.lease number
    (λ all. subst (λ bytes. AreStates c.keep.new.self.states (Some key) (begun_with c.args.purpose c.args.alg key bytes)) c.as_slice.ensures
    (subst (λ s. AreStates s (Some key) (begun_with c.args.purpose c.args.alg key c.as_slice.result.now)) (sym c.keep.ensures.states) (c.begin_with.ensures key all))) h
