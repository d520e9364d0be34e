use Rattle.slot_table.proofs.Common.{no_key, replicate, vec_capacity, ◌≡◌}
use Rattle.slot_table.proofs.rows.no_keys.Given as goal

abbrev pub invariant-loop : goal.invariant-loop
invariant-loop l = (l.keys.items ≡ replicate l.counter no_key) × (vec_capacity l.keys ≡ 384)
