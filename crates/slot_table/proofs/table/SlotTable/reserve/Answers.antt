use Rattle.slot_table.proofs.{Common.ap, Common.empty_slot, Common.get_or-set_same, Common.is_empty_state, Common.length, Common.length-set, Common.recency_without, Common.set-set, Common.Slot, Common.sym, Common.Table, Common.◌<◌, Common.◌∙◌, AtSlots.full_within, Laws.first_is_full, Laws.empty_is_not_recent}
use Rattle.slot_table.proofs.table.SlotTable.reserve.Goals as goal

pub returns-in-Some-clause-recency : goal.returns-in-Some-clause-recency
returns-in-Some-clause-recency c =
    let recency = ap (λ (t : Table). t.recency) c.self.view_is in
    c.begin.ensures.recency ∙ empty_is_not_recent _ c.in-Some.slot c.self.invariant.law c.in-Some.ensures.found.1 ∙ ap (recency_without c.in-Some.slot) recency ∙ ap (λ i. recency_without i c.args.self.now.recency) (sym c.begin.ensures.slot)

pub begin-requires-2 : goal.begin-requires-2
begin-requires-2 c =
    let slots = c.args.self.now.slots in
    let slot = c.evict-slot.result in
    let within : slot < length slots = full_within slots slot (first_is_full c.args.self.now slot c.evict-slot.ensures.first) in
    rw c.evict-slot.ensures.slots (rw length-set within, ap (λ (s : Slot). is_empty_state s.state) (get_or-set_same slots slot empty_slot empty_slot within))

pub returns-clause-slots : goal.returns-clause-slots
returns-clause-slots c = rw (c.begin-2.ensures.slots, c.evict-slot.ensures.slots, c.begin-2.ensures.slot) (set-set _ _ _ _)
