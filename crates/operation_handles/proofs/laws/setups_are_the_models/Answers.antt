use Rattle.operation_handles.proofs.Served as laws
use Rattle.operation_handles.proofs.laws.setups_are_the_models.Goals as goal

pub returns : goal.returns
returns c = laws.setups
