use Rattle.slot_table.proofs.{Common.arith, Common.empty_head, Common.get_or_read, Common.refl, Views.stands_at}
use Rattle.slot_table.proofs.rows.SlotRows.head.Goals as goal

pub index-requires : goal.index-requires
index-requires c =
    omega (arith, (stands_at _ _ _ _ c.self.invariant c.self.view_is c.requires).head, c.self.inside.heads.ok.0)

pub returns : goal.returns
returns c =
    let f = stands_at _ _ _ c.args.slot c.self.invariant c.self.view_is c.requires in
    rw (f.slot, get_or_read c.self.inside.heads.items _ _ f.head c.index.ensures empty_head) refl
