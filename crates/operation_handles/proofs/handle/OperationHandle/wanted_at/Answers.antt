use Rattle.operation_handles.proofs.KeyInputs.{refuses, takes}
use Rattle.operation_handles.proofs.handle.OperationHandle.wanted_at.Goals as goal

pub returns-in-Some-clause-refused : goal.returns-in-Some-clause-refused
returns-in-Some-clause-refused c = λ operation h. refuses c.args.self.now c.args.step _ c.in-Some.field-0 operation c.key_step_refusal.ensures c.in-Some.is h

pub returns-in-None-clause-found : goal.returns-in-None-clause-found
returns-in-None-clause-found c = λ operation h. takes c.args.self.now c.args.step _ operation c.key_step_refusal.ensures c.in-None.is h
