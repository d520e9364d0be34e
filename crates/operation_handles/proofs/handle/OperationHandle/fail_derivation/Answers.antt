use Rattle.operation_handles.proofs.KeyInputs.{failed}
use Rattle.operation_handles.proofs.handle.OperationHandle.fail_derivation.Goals as goal

pub returns-clause-state : goal.returns-clause-state
returns-clause-state c = λ operation w h derives. failed c.args.self.now c.fail.new.self operation w derives c.fail.ensures h
