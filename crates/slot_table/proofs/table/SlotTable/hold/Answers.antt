use Rattle.slot_table.proofs.{Common.Full, Common.Table, Common.ap, Common.refl, Common.slot_at, Common.◌<◌, Common.◌≡◌, AtSlots.full_within, Laws.lawful_pending, Tables.table_loses}
use Rattle.slot_table.proofs.table.SlotTable.hold.Goals as goal

pub invariant_of-self : goal.invariant_of-self
invariant_of-self c =
    let view = ap (λ (t : Table). t.slots) c.self.view_is in
    let full : (slot_at c.self.inside.rows c.args.slot).state ≡ Full = rw view c.requires.full in
    let read : 0 < (slot_at c.self.inside.rows c.args.slot).readers = rw view c.requires.read in
    rw (c.change.ensures, c.forget.ensures.row)
    (table_loses _ _ _ _ _ c.self.invariant (full_within _ _ full) full refl (lawful_pending _ _ (c.self.invariant.law.each c.args.slot) refl refl read) (rw (c.key.ensures.attributes, c.deref_mut.ensures.value) at c.remove.ensures))

pub returns-clause-lawful : goal.returns-clause-lawful
returns-clause-lawful c = (invariant_of-self c).law
