use Rattle.hmac_ops.proofs.Common.{first_words, length, take, ◌≡◌}
use Rattle.hmac_ops.proofs.schedule.put_block_words.Given as goal

abbrev pub invariant-words : goal.invariant-words
invariant-words l = (length l.words ≡ 64) × (take l.t l.words ≡ first_words l.block l.t)
