use Rattle.turn_history.proofs.{Common.boxed_base, Common.boxed_stands, Common.rules, Joining.joins, Joining.compares, Joining.one_of_two}
use Rattle.turn_history.proofs.lock.HistoryLock.join.Goals as goal

pub join_seat-requires : goal.join_seat-requires
join_seat-requires g c = (search rules, search rules, search rules, search rules, joins g.V.Historic.by (boxed_stands g.V.Historic.stands) (boxed_base g.V.Historic.base) _ _ _ _ _ _ c.requires.idle.1 c.requires.idle.2)

pub load-requires : goal.load-requires
load-requires g c = (search rules, search rules, compares g.V.Historic.by (boxed_stands g.V.Historic.stands) (boxed_base g.V.Historic.base) _ _ _ _ _)

pub returns-clause-order : goal.returns-clause-order
returns-clause-order g c = one_of_two g.V.Historic.by (boxed_stands g.V.Historic.stands) (boxed_base g.V.Historic.base) (g.V.Historic.base c.args.self.now.table.shared.key.value.value) 0 c.args.pass.now.me c.join_seat.new.seat.me c.load.new.seat.me c.args.other.me.0 c.load.result c.args.self.now.table.shared.table_id.slots c.join_seat.ensures.2 c.load.ensures.2
