use Rattle.slot_table.proofs.{Common.is_idle, Common.slot_at, Common.◌≤◌, Linked.IsAt}
use Rattle.slot_table.proofs.recency.Recency.oldest_idle.Given as goal

abbrev pub invariant-loop : goal.invariant-loop
invariant-loop l = (l.slot ≤ 384) × IsAt l.self-inside.links.value (λ i. is_idle (slot_at l.rows i)) l.slot l.counter
