use Rattle.turn_history.proofs.{Common.boxed_base, Common.boxed_stands, Common.rules, Joining.gathers}
use Rattle.turn_history.proofs.ending.Ending.take.Goals as goal

pub join_seat-requires : goal.join_seat-requires
join_seat-requires g c = let e = c.args.self.now in let own = c.requires in
    (e.table, own.0, own.3, search rules, gathers g.V.Historic.by (boxed_stands g.V.Historic.stands) (boxed_base g.V.Historic.base) _ _ _ _ _ _ e.watching.0 own.1 own.2)
