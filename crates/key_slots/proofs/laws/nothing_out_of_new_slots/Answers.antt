use Rattle.key_slots.proofs.Agreeing.{empty_ones}
use Rattle.key_slots.proofs.laws.nothing_out_of_new_slots.Goals as goal

pub returns : goal.returns
returns c = empty_ones
