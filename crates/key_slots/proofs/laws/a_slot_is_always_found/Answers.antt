use Rattle.key_slots.proofs.Counting.{always_found}
use Rattle.key_slots.proofs.laws.a_slot_is_always_found.Goals as goal

pub returns : goal.returns
returns c = always_found
