use Rattle.slot_table.proofs.{Common.ap, Common.arith, Common.empty_head, Common.empty_slot, Common.get_or_past, Common.get_or_read, Common.is_idle, Common.length, Common.no_key, Common.sym, Common.◌<◌, Views.slot_is, Views.length_is}
use Rattle.slot_table.proofs.rows.SlotRows.is_idle.Goals as goal

pub returns-then-place-len : goal.returns-then-place-len
returns-then-place-len c =
    let long = length_is _ _ _ c.self.invariant c.self.view_is in
    sym (ap is_idle (get_or_past c.args.self.now c.args.slot empty_slot (omega (arith, long, c.self.inside.heads.ok.0, c.self.invariant.heads_sized))))

pub returns : goal.returns
returns c =
    let heads = c.self.inside.heads in
    let keys = c.self.inside.keys in
    let head : c.args.slot < length heads.items = omega (arith, heads.ok.0) in
    let key : c.args.slot < length keys.items = omega (arith, heads.ok.0, c.self.invariant.heads_sized, c.self.invariant.keys_sized) in
    rw (c.is_idle.ensures, slot_is _ _ _ c.self.invariant c.self.view_is c.args.slot, get_or_read heads.items _ _ head c.index.ensures empty_head, get_or_read keys.items _ _ key c.index-2.ensures no_key)
