use Rattle.operation_handles.proofs.ServedInputs as laws
use Rattle.operation_handles.proofs.laws.key_inputs_are_the_models.Goals as goal

pub returns : goal.returns
returns c = laws.inputs
