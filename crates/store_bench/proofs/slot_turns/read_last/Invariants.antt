use Rattle.std.proofs.Common.{◌≡◌}
use Rattle.secret_bytes.specs.Buffer.{IsClear}
use Rattle.slot_states.specs.declared.SlotState.TheVariants.{Full}
use Rattle.slot_table.specs.Slots.{slot_at}
use Rattle.store_bench.proofs.slot_turns.read_last.Given as goal

abbrev pub invariant-reads : goal.invariant-reads
invariant-reads l =
    ((slot_at l.table.slots l.slot).state ≡ Full) × ((slot_at l.table.slots l.slot).readers ≡ 0) × IsClear l.spare
