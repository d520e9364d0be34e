use Rattle.slot_table.proofs.{Common.arith, Common.get_or_read, Common.no_key, Common.refl, Views.stands_at}
use Rattle.slot_table.proofs.rows.SlotRows.key.Goals as goal

pub index-requires : goal.index-requires
index-requires c =
    omega (arith, (stands_at _ _ _ _ c.self.invariant c.self.view_is c.requires).key, c.self.inside.keys.ok.0)

pub returns : goal.returns
returns c =
    let f = stands_at _ _ _ c.args.slot c.self.invariant c.self.view_is c.requires in
    let is = get_or_read c.self.inside.keys.items _ _ f.key c.index.ensures no_key in
    record {
      readers = rw (f.slot, is) refl;
      creation = rw (f.slot, is) refl;
      attributes = rw (f.slot, is) refl;
      buffer = rw (f.slot, is) refl;
    }
