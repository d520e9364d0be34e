use Rattle.slot_table.proofs.{Common.refl, Linked.links_start, Linked.own_row, Linked.row_is}
use Rattle.slot_table.proofs.recency.Recency.new.Goals as goal

pub invariant_of-result : goal.invariant_of-result
invariant_of-result c = rw c.in-Ok.ensures.ok (own_row _ _ (links_start 385 refl))

pub returns-in-Ok : goal.returns-in-Ok
returns-in-Ok c = rw c.in-Ok.ensures.ok (row_is _ _ (links_start 385 refl))
