use Rattle.slot_table.proofs.{Common.arith, Common.empty_head, Common.get_or_read, Common.no_key, Views.stands_at}
use Rattle.slot_table.proofs.rows.SlotRows.is_last.Goals as goal

pub index-requires : goal.index-requires
index-requires c =
    omega (arith, (stands_at _ _ _ _ c.self.invariant c.self.view_is c.requires).head, c.self.inside.heads.ok.0)

pub index-requires-2 : goal.index-requires-2
index-requires-2 c =
    omega (arith, (stands_at _ _ _ _ c.self.invariant c.self.view_is c.requires).key, c.self.inside.keys.ok.0)

pub returns : goal.returns
returns c =
    let f = stands_at _ _ _ c.args.slot c.self.invariant c.self.view_is c.requires in
    rw (c.is_last.ensures, f.slot, get_or_read c.self.inside.heads.items _ _ f.head c.index.ensures empty_head, get_or_read c.self.inside.keys.items _ _ f.key c.index-2.ensures no_key)
