use Rattle.std.proofs.Common.{Err, IfOk, Ok, Result, [], ap, replicate, ◌∙◌, ◌≡◌}
use Rattle.psa_status.specs.declared.Memory.{Memory}
use Rattle.slot_table.specs.Slots.{Table, slot_at, empty_slot}
use Rattle.store_bench.specs.Readers.{AllUnread}
use Rattle.store_bench.proofs.ReadSlots.{all_unread_start}
use Rattle.store_bench.proofs.slot_keys.new_table.Goals as goal

unread : (made : Result Table Memory) → IfOk made (λ t. t ≡ record { slots = replicate 384 empty_slot; recency = [] }) → IfOk made (λ t. AllUnread t.slots)
unread (Ok t) is = λ i. ap (λ (table : Table). (slot_at table.slots i).readers) is ∙ all_unread_start 384 i
unread (Err e) is = tt

pub returns : goal.returns
returns c = unread c.new.result c.new.ensures.value
