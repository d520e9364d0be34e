use Rattle.turn_history.proofs.{Common.boxed_base, Common.boxed_stands, Common.rules, Turning.fronts}
use Rattle.turn_history.proofs.lock.HistoryLock.front.Goals as goal

pub load-requires : goal.load-requires
load-requires g c = (search rules, search rules, fronts g.V.Historic.by (boxed_stands g.V.Historic.stands) (boxed_base g.V.Historic.base) _ _ _ _ _)
