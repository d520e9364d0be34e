use Rattle.slot_table.proofs.Times.{times-same}
use Rattle.slot_table.proofs.recency.Recency.refresh.Goals as goal

pub push-requires-clause-new : goal.push-requires-clause-new
push-requires-clause-new c = rw c.forget.ensures.row (times-same c.args.slot c.args.self.now)
