use Rattle.turn_history.proofs.{Common.boxed_base, Common.boxed_stands, Common.rules, Splitting.watches}
use Rattle.turn_history.proofs.lock.HistoryLock.split.Goals as goal

pub split_seat-requires : goal.split_seat-requires
split_seat-requires g c = (search rules, search rules, watches g.V.Historic.by (boxed_stands g.V.Historic.stands) (boxed_base g.V.Historic.base) _ _ _ _)
