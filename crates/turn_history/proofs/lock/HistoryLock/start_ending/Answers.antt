use Rattle.turn_history.proofs.{Common.[], Common.boxed_base, Common.boxed_stands, Common.first_view, Common.rules, Ends.sits}
use Rattle.turn_history.proofs.lock.HistoryLock.start_ending.Goals as goal

pub load_new_seat-last-requires : goal.load_new_seat-last-requires
load_new_seat-last-requires g c = (search rules, sits g.V.Historic.by (boxed_stands g.V.Historic.stands) (boxed_base g.V.Historic.base) _ _ _ (first_view (g.V.Historic.base c.args.self.table.shared.key.value.value) c.args.self.table.shared.key.passes, []))
