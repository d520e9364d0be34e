use Rattle.derivation_states.proofs.Derived as laws
use Rattle.derivation_states.proofs.due_grows.Goals as goal

pub returns : goal.returns
returns c = laws.due_grows
