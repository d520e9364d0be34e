use Rattle.slot_table.proofs.{Common.Full, Common.Table, Common.ap, Common.refl, Common.slot_at, Common.◌≡◌, AtSlots.full_within, Laws.lawful_empty, Tables.table_loses}
use Rattle.slot_table.proofs.table.SlotTable.discard.Goals as goal

pub invariant_of-self : goal.invariant_of-self
invariant_of-self c =
    let full : (slot_at c.self.inside.rows c.args.slot).state ≡ Full = rw (ap (λ (t : Table). t.slots) c.self.view_is) c.requires.full in
    rw (c.wipe.ensures, c.forget.ensures.row) (table_loses _ _ _ _ _ c.self.invariant (full_within _ _ full) full refl lawful_empty (rw (c.key.ensures.attributes, c.deref_mut.ensures.value) at c.remove.ensures))

pub returns-clause-lawful : goal.returns-clause-lawful
returns-clause-lawful c = (invariant_of-self c).law
