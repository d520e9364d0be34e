use Rattle.operation_handles.proofs.Ended as laws
use Rattle.operation_handles.proofs.laws.an_ended_operation_is_clear.Goals as goal

pub returns : goal.returns
returns c = laws.ended
