use Rattle.slot_table.proofs.{Common.arith, Common.get_or_read, Common.no_key, Common.refl, Views.stands_at, Views.changed_key}
use Rattle.slot_table.proofs.rows.SlotRows.unregister.Goals as goal

pub index_mut-key-requires : goal.index_mut-key-requires
index_mut-key-requires c =
    omega (arith, (stands_at _ _ _ _ c.self.invariant c.self.view_is c.requires.within).key, c.self.inside.keys.ok.0)

pub overflow_sub-key : goal.overflow_sub-key
overflow_sub-key c =
    let f = stands_at _ _ _ c.args.slot c.self.invariant c.self.view_is c.requires.within in
    rw (get_or_read c.self.inside.keys.items _ _ f.key c.index_mut-key.ensures.value no_key) (rw f.slot at c.requires.read)

pub returns : goal.returns
returns c =
    let f = stands_at _ _ _ c.args.slot c.self.invariant c.self.view_is c.requires.within in
    changed_key _ _ _ _ _ _ c.self.view_is (rw (f.slot, get_or_read c.self.inside.keys.items _ _ f.key c.index_mut-key.ensures.value no_key) refl)
