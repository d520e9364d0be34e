use Rattle.key_slots.proofs.Agreeing.{quiet}
use Rattle.key_slots.proofs.laws.keys_stay.Goals as goal

pub returns : goal.returns
returns c = quiet
