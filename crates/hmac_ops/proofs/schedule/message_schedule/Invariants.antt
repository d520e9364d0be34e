use Rattle.hmac_ops.proofs.Common.{length, schedule, take, ◌*◌, ◌-◌, ◌≡◌}
use Rattle.hmac_ops.proofs.schedule.message_schedule.Given as goal

abbrev pub invariant-turns : goal.invariant-turns
invariant-turns l = (length l.words ≡ 64) × (take (8 * l.turn) l.words ≡ schedule l.block (8 * l.turn - 16))
