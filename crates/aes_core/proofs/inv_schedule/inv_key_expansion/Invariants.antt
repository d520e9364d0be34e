use Rattle.aes_core.proofs.{Common.length, Common.◌≡◌, InvSchedule.IsDoneBelow}
use Rattle.aes_core.proofs.inv_schedule.inv_key_expansion.Given as goal

abbrev pub invariant-words : goal.invariant-words
invariant-words l = (length l.inverse ≡ 60) × IsDoneBelow l.i l.schedule l.inverse
