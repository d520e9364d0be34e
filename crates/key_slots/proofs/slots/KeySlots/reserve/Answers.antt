use Rattle.key_slots.proofs.{Common.filling_slot, Common.inr, Common.IsTakenOf, Common.next_within, Common.refl, Agreeing.reserves, Wiping.ends_one, Wiping.next_taken}
use Rattle.key_slots.proofs.slots.KeySlots.reserve.Goals as goal

pub returns-clause-gives : goal.returns-clause-gives
returns-clause-gives c = λ store all more a gains.
    rw c.reserve.ensures.slots (reserves c.args.self.now.table store all more c.reserve.result.slot c.args.self.now.lawful c.reserve.ensures.next gains a)

pub returns-clause-wipes : goal.returns-clause-wipes
returns-clause-wipes c =
    let t = c.args.self.now.table in
    let i = c.reserve.result.slot in
    rw c.reserve.ensures.slots (ends_one t.slots i filling_slot (IsTakenOf i) (inr (refl, next_taken t i c.reserve.ensures.next)) (next_within t i c.reserve.ensures.next))

pub returns-clause-taken : goal.returns-clause-taken
returns-clause-taken c = next_taken c.args.self.now.table c.reserve.result.slot c.reserve.ensures.next
