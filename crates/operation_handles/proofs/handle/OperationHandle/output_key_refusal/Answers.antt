use Rattle.operation_handles.proofs.KeyOutputs.{refusal_is}
use Rattle.operation_handles.proofs.handle.OperationHandle.output_key_refusal.Goals as goal

pub returns : goal.returns
returns c = λ operation h. refusal_is c.args.self.now operation c.args.attributes.now c.output_key_refusal.result h c.output_key_refusal.ensures
