use Rattle.slot_table.proofs.Common.{false, head_at, is_empty_state, ℕ, ◌<◌, ◌≡◌}
use Rattle.slot_table.proofs.rows.SlotRows.find_empty.Given as goal

abbrev pub invariant-loop-i : goal.invariant-loop-i
invariant-loop-i l = (k : ℕ) → k < l.i → is_empty_state (head_at l.self-inside.heads.items k).state ≡ false
