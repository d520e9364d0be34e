use Rattle.slot_table.proofs.{Common.arith, Common.empty_head, Common.get_or_read, Common.no_key, Common.refl, Views.stands_at, Views.changed_head}
use Rattle.slot_table.proofs.rows.SlotRows.change.Goals as goal

pub index-requires : goal.index-requires
index-requires c =
    omega (arith, (stands_at _ _ _ _ c.self.invariant c.self.view_is c.requires.within).key, c.self.inside.keys.ok.0)

pub index_mut-requires : goal.index_mut-requires
index_mut-requires c =
    omega (arith, (stands_at _ _ _ _ c.self.invariant c.self.view_is c.requires.within).head, c.self.inside.heads.ok.0)

pub change-requires : goal.change-requires
change-requires c =
    let f = stands_at _ _ _ c.args.slot c.self.invariant c.self.view_is c.requires.within in
    rw (get_or_read c.self.inside.heads.items _ _ f.head c.index_mut.ensures.value empty_head, get_or_read c.self.inside.keys.items _ _ f.key c.index.ensures no_key)
    (rw f.slot at c.requires.allowed)

pub returns : goal.returns
returns c =
    let f = stands_at _ _ _ c.args.slot c.self.invariant c.self.view_is c.requires.within in
    changed_head _ _ _ _ _ _ c.self.view_is (rw (f.slot, c.change.ensures) refl)
