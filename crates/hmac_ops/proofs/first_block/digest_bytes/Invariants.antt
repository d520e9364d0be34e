use Rattle.hmac_ops.proofs.Common.{digest_bytes, length, take, ◌*◌, ◌≡◌}
use Rattle.hmac_ops.proofs.first_block.digest_bytes.Given as goal

abbrev pub invariant-words : goal.invariant-words
invariant-words l = (length l.digest ≡ 32) × (take (4 * l.i) l.digest ≡ digest_bytes l.hash_value l.i)
