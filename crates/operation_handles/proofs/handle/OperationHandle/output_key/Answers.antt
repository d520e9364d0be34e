use Rattle.operation_handles.proofs.KeyOutputs.{derived, due_answers}
use Rattle.operation_handles.proofs.handle.OperationHandle.output_key.Goals as goal

pub unwrap-requires : goal.unwrap-requires
unwrap-requires c = due_answers c.args.self.now c.args.attributes.now c.key_derivation_output_key.result _ _ c.requires.some c.requires.due c.key_derivation_output_key.ensures.key

pub returns-clause-state : goal.returns-clause-state
returns-clause-state c = λ operation w h derives.
    derived c.args.self.now c.key_derivation_output_key.new.self c.args.attributes.now c.unwrap.result _ c.key_derivation_output_key.new.out operation w h derives (c.requires.due operation h)
    c.key_derivation_output_key.ensures.state (rw c.unwrap.ensures at c.key_derivation_output_key.ensures.key)
