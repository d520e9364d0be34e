use Rattle.slot_table.proofs.{Common.NoKey, Common.Table, Common.ap, Common.arith, Common.cond, Common.refl, Common.◌∙◌, Laws.lawful_new, Tables.has_room, Tables.table_gains}
use Rattle.slot_table.proofs.table.SlotTable.finish.Goals as goal

pub push-requires-clause-within : goal.push-requires-clause-within
push-requires-clause-within c = (has_room _ _ _ _ _ c.self.invariant (ap (λ (t : Table). t.slots) c.self.view_is) c.filling.view_is c.requires.filling).within

pub push-requires-clause-room : goal.push-requires-clause-room
push-requires-clause-room c = (has_room _ _ _ _ _ c.self.invariant (ap (λ (t : Table). t.slots) c.self.view_is) c.filling.view_is c.requires.filling).recency

pub push-requires-clause-new : goal.push-requires-clause-new
push-requires-clause-new c = (has_room _ _ _ _ _ c.self.invariant (ap (λ (t : Table). t.slots) c.self.view_is) c.filling.view_is c.requires.filling).absent

pub insert-requires : goal.insert-requires
insert-requires c =
    let room = has_room _ _ _ _ _ c.self.invariant (ap (λ (t : Table). t.slots) c.self.view_is) c.filling.view_is c.requires.filling in
    let unknown : NoKey c.args.attributes.now.id.0 c.self.inside.rows = rw (ap (λ (t : Table). t.slots) c.self.view_is) c.requires.unknown in
    rw c.deref_mut.ensures.value (omega arith, (room.index, λ i. c.self.invariant.index _ i ∙ ap (λ b. cond b 1 0) (unknown i)))

pub invariant_of-self : goal.invariant_of-self
invariant_of-self c =
    let room = has_room _ _ _ _ _ c.self.invariant (ap (λ (t : Table). t.slots) c.self.view_is) c.filling.view_is c.requires.filling in
    let unknown : NoKey c.args.attributes.now.id.0 c.self.inside.rows = rw (ap (λ (t : Table). t.slots) c.self.view_is) c.requires.unknown in
    rw (c.fill.ensures, c.push.ensures)
    (table_gains _ _ _ _ _ c.self.invariant room.here room.unused refl unknown (lawful_new _ _ _ c.requires.short) (rw c.deref_mut.ensures.value at c.insert.ensures))

pub returns-clause-lawful : goal.returns-clause-lawful
returns-clause-lawful c = (invariant_of-self c).law
