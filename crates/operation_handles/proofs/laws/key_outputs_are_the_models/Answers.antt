use Rattle.operation_handles.proofs.ServedOutputs as laws
use Rattle.operation_handles.proofs.laws.key_outputs_are_the_models.Goals as goal

pub returns : goal.returns
returns c = laws.outputs
