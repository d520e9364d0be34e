use Rattle.slot_table.proofs.{Common.arith, Common.empty_head, Common.get_or_read, Common.no_key, Common.refl, Views.stands_at, Views.changed_both}
use Rattle.slot_table.proofs.rows.SlotRows.fill.Goals as goal

pub index_mut-key-requires : goal.index_mut-key-requires
index_mut-key-requires c =
    omega (arith, (stands_at _ _ _ _ c.self.invariant c.self.view_is c.requires.within).key, c.self.inside.keys.ok.0)

pub index_mut-head-requires : goal.index_mut-head-requires
index_mut-head-requires c =
    omega (arith, (stands_at _ _ _ _ c.self.invariant c.self.view_is c.requires.within).head, c.self.inside.heads.ok.0)

pub change-requires : goal.change-requires
change-requires c =
    let f = stands_at _ _ _ c.args.slot c.self.invariant c.self.view_is c.requires.within in
    rw (get_or_read c.self.inside.heads.items _ _ f.head c.index_mut-head.ensures.value empty_head, get_or_read c.self.inside.keys.items _ _ f.key c.index_mut-key.ensures.value no_key)
    (rw f.slot at c.requires.allowed)

pub returns : goal.returns
returns c = changed_both _ _ _ _ _ _ _ c.self.view_is (rw (c.change.ensures, c.fill.ensures) refl)
