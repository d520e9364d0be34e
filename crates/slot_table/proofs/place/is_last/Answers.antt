use Rattle.slot_table.proofs.Common.{rules}
use Rattle.slot_table.proofs.place.is_last.Goals as goal

pub returns-then-is_pending : goal.returns-then-is_pending
returns-then-is_pending c = search rules
