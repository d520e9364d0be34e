use Rattle.aes_core.proofs.Common.{word_bytes, expanded, length, take, ◌%◌, ◌-◌, ◌<◌, ◌≡◌}
use Rattle.aes_core.proofs.schedule.key_expansion.Given as goal

abbrev pub invariant-words : goal.invariant-words
invariant-words l =
    (length l.schedule ≡ 60) × (word_bytes (take l.i l.schedule) ≡ expanded l.words l.key (l.i - l.words)) × (l.turn ≡ l.i % l.words) × (l.turn < l.words)
