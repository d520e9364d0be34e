use Rattle.slot_table.proofs.{Common.refl, Tables.table_starts}
use Rattle.slot_table.proofs.table.SlotTable.new.Goals as goal

pub invariant_of-result : goal.invariant_of-result
invariant_of-result c = rw (c.in_ok-rows.ensures, c.in_ok-recency.ensures, c.in-Ok.ensures.ok, c.new-3.ensures) (table_starts 384 refl)

pub returns-clause-lawful : goal.returns-clause-lawful
returns-clause-lawful c = (invariant_of-result c).law
