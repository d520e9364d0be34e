-- The length of a code.
use Rattle.hmac_ops.proofs.Common.{List, block_length, digest_length, hash_of, hmac, length, length-hash_of, ℕ, ◌≡◌}
use Rattle.hash_ops.specs.declared.Hash.{Hash}

-- a code is as long as a digest
pub length-hmac : (which : Hash) (key m : List ℕ) → length (hmac (hash_of which) (block_length which) key m) ≡ digest_length which
unfolding hmac
length-hmac which key m = length-hash_of which _
