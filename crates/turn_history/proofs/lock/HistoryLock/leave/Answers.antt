use Rattle.turn_history.proofs.{Common.boxed_base, Common.boxed_stands, Common.rules, Turning.ends_at}
use Rattle.turn_history.proofs.lock.HistoryLock.leave.Goals as goal

pub fetch_add-ticket-requires : goal.fetch_add-ticket-requires
fetch_add-ticket-requires g c = let r = c.requires in
    (search rules, search rules, ends_at g.V.Historic.by (boxed_stands g.V.Historic.stands) (boxed_base g.V.Historic.base) _ _ _ _ _ _ c.args.turn.value _ _ c.exchange-empty.ensures.3 r.turn.1 r.turn.0 r.turn.2 r.by r.value r.base)
