use Rattle.locked_store.proofs.{Common.IsClosed, Common.[], Common.replicate, Common.subst, Common.sym, Common.world_of, Closing.closed}
use Rattle.locked_store.proofs.opening.end.Goals as goal

pub returns : goal.returns
returns g c = let k = c.end-store.ensures in record {
  closed = subst (λ r. IsClosed (world_of g.D.Disk g.A.Devices g.C.Admission c.args.ending.lock.table.shared.table_id c.args.ending.lock.table.shared.key.value.value.store.opened) r.0 r.1 c.args.ending.last.me.0.accounts) (sym c.into_disk.ensures)
      (closed (world_of g.D.Disk g.A.Devices g.C.Admission c.args.ending.lock.table.shared.table_id c.args.ending.lock.table.shared.key.value.value.store.opened) g.met.D.Disk.only_now c.end-store.result.store
      c.args.ending.lock.table.shared.key.passes k.turns (replicate c.args.ending.lock.table.shared.key.passes []) c.args.ending.last.me.0.accounts k.same_base c.requires.sixteen k.stood k.signed k.seen k.called);
}
