use Rattle.slot_table.proofs.{Common.Filling, Common.Reserved, Common.Table, Common.ap, Common.is_full, Common.refl, Common.slot_at, Common.◌≡◌, AtSlots.filling_within, Laws.lawful_empty, Tables.unused_stays}
use Rattle.slot_table.proofs.table.SlotTable.drop_filling.Goals as goal

pub invariant_of-self : goal.invariant_of-self
invariant_of-self c =
    let filling : (slot_at c.self.inside.rows c.filling.inside.slot).state ≡ Filling = rw (ap (λ (t : Table). t.slots) c.self.view_is, ap (λ (r : Reserved). r.slot) c.filling.view_is) c.requires in
    rw c.wipe.ensures (unused_stays _ _ _ _ c.self.invariant (filling_within _ _ filling) (ap is_full filling) refl lawful_empty)

pub returns-clause-lawful : goal.returns-clause-lawful
returns-clause-lawful c = (invariant_of-self c).law
