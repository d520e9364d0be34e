use Rattle.aes_core.proofs.Common.{word_bytes, length, take, ◌*◌, ◌≡◌}
use Rattle.aes_core.proofs.schedule.with_room.Given as goal

abbrev pub invariant-words : goal.invariant-words
invariant-words l = (length l.schedule ≡ 60) × (word_bytes (take l.i l.schedule) ≡ take (4 * l.i) l.key)
