use Rattle.key_slots.proofs.{Common.arith, Common.slot_at, Agreeing.readers_out, Counting.few_of_one}
use Rattle.key_slots.proofs.laws.few_read_a_slot.Goals as goal

pub returns : goal.returns
returns c = λ slots store all i a law inside.
    let s = slot_at slots i in
    let few = few_of_one all i s.creation law in
    let read = readers_out slots store all i inside a in
    omega arith
