use Rattle.secret_bytes.specs.Buffer.{IsClear}
use Rattle.store_bench.specs.Readers.{AllUnread}
use Rattle.store_bench.proofs.slot_turns.read_oldest.Given as goal

abbrev pub invariant-reads : goal.invariant-reads
invariant-reads l = AllUnread l.table.slots × IsClear l.spare
