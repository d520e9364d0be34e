use Rattle.caller_service.proofs.{Common.IsClosed, Common.IsRetired, Common.WereRetired, Common.account_of, Common.ap, Common.arith, Common.get_or, Common.map, Common.reverse, Common.subst, Common.sym, Common.world_of, Common.◌++◌, Common.◌∙◌, Ended.closed_over}
use Rattle.locked_store.specs.Shared.{lock_of, opened_of, world}
use Rattle.caller_service.proofs.service.Service.close.Goals as goal

pub hand_in-requires-clause-retired : goal.hand_in-requires-clause-retired
unfolding lock_of opened_of
hand_in-requires-clause-retired g c κs within = λ k d lt.
    let r = c.retire_all.ensures.retired in
    subst (λ l. IsRetired l.table.shared.table_id (get_or c.retire_all.new.callers.items k d)) (sym c.start_ending.ensures.lock) (r.each k d (let n = r.as_many in omega arith)).retired

pub returns : goal.returns
unfolding lock_of opened_of
returns g c =
    let w = world c.args.self.shared in
    let closed : IsClosed w c.end-disk.result.0 c.end-disk.result.1 c.hand_in.result.last.me.0.accounts = subst (λ l. IsClosed (world_of g.D.Disk g.A.Devices g.C.Admission l.table.shared.table_id l.table.shared.key.value.value.store.opened) c.end-disk.result.0 c.end-disk.result.1 c.hand_in.result.last.me.0.accounts)
    (c.hand_in.ensures.lock ∙ c.start_ending.ensures.lock) c.end-disk.ensures.closed in
    record {
      closed = closed_over w c.end-disk.result.0 c.end-disk.result.1 c.args.callers.items c.retire_all.new.callers.items c.hand_in.result.last.me.0.accounts
          c.requires.ready c.retire_all.ensures.retired
          (c.hand_in.ensures.accounts ∙ ap (λ l. l ++ map (λ c. account_of c.pass.me.0) (reverse c.retire_all.new.callers.items)) c.start_ending.ensures.nothing.0) closed;
      wiped = subst (λ ended. WereRetired w c.args.callers.items ended.items) (sym c.of-ended.ensures) c.retire_all.ensures.retired;
    }
