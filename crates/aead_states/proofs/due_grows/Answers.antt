use Rattle.aead_states.proofs.Dues as laws
use Rattle.aead_states.proofs.due_grows.Goals as goal

pub returns : goal.returns
returns c = laws.due_grows
