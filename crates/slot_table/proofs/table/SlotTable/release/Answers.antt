use Rattle.slot_table.proofs.{Common.Table, Common.ap, Common.false, Common.is_last, Common.refl, Common.slot_at, Common.sym, Common.true, Common.◌<◌, Common.◌∙◌, Common.◌≡◌, AtSlots.read_within, Laws.loses_reader, Laws.lawful_empty, Laws.pending_is_unused, Indexed.index_stays, Tables.unused_stays}
use Rattle.slot_table.proofs.table.SlotTable.release.Goals as goal

pub is_last-requires : goal.is_last-requires
is_last-requires c =
    let read : 0 < (slot_at c.self.inside.rows c.args.slot).readers = rw (ap (λ (t : Table). t.slots) c.self.view_is) c.requires in
    read_within _ _ read

pub invariant_of-self : goal.invariant_of-self
invariant_of-self c =
    let read : 0 < (slot_at c.self.inside.rows c.args.slot).readers = rw (ap (λ (t : Table). t.slots) c.self.view_is) c.requires in
    let last : is_last (slot_at c.self.inside.rows c.args.slot) ≡ true = sym c.is_last.ensures ∙ c.if-is_last.true in
    rw c.wipe.ensures (unused_stays _ _ _ _ c.self.invariant (read_within _ _ read) (pending_is_unused (slot_at c.self.inside.rows c.args.slot) last) refl lawful_empty)

pub invariant_of-self-else-is_last : goal.invariant_of-self-else-is_last
invariant_of-self-else-is_last c =
    let read : 0 < (slot_at c.self.inside.rows c.args.slot).readers = rw (ap (λ (t : Table). t.slots) c.self.view_is) c.requires in
    let more : is_last (slot_at c.self.inside.rows c.args.slot) ≡ false = sym c.is_last.ensures ∙ c.if-is_last.false in
    rw c.unregister.ensures
    (record {
      law = loses_reader _ _ c.self.invariant.law read more;
      index = index_stays _ _ _ c.self.inside.index.value (read_within _ _ read) (λ id. refl) c.self.invariant.index;
      sized = c.self.invariant.sized;
    })

pub returns-then-is_last-clause-lawful : goal.returns-then-is_last-clause-lawful
returns-then-is_last-clause-lawful c = (invariant_of-self c).law

pub returns-else-is_last-clause-lawful : goal.returns-else-is_last-clause-lawful
returns-else-is_last-clause-lawful c = (invariant_of-self-else-is_last c).law
