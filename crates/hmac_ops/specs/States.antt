-- What a key made ready and a running HMAC (RFC 2104) stand for.
use Rattle.std.specs.Prelude.{ℕ, List, ◌++◌}
use Rattle.crypto_specs.specs.Prelude.{inner_pad, outer_pad}
use Rattle.hash_ops.specs.{Hashes.hash_of, Hashes.block_length, States.HashHolds, States.IsEmpty, declared.Hash.Hash}
use Rattle.hmac_ops.specs.{declared.key.HmacKey.HmacKey, declared.state.HmacState.HmacState}

-- the key has this function and these bytes
pub record IsHmacKey (k : HmacKey) (which : Hash) (key : List ℕ) : Type 0 where
  pub inner : HashHolds k.inner which (inner_pad (hash_of which) (block_length which) key)
  pub outer : HashHolds k.outer which (outer_pad (hash_of which) (block_length which) key)

-- the state has this function and key, and has taken in this message
pub record HoldsHmac (s : HmacState) (which : Hash) (key message : List ℕ) : Type 0 where
  pub inner : HashHolds s.inner which (inner_pad (hash_of which) (block_length which) key ++ message)
  pub outer : HashHolds s.outer which (outer_pad (hash_of which) (block_length which) key)

-- the hashes are those of the empty message
pub record IsWipedHmacKey (k : HmacKey) : Type 0 where
  pub inner : IsEmpty k.inner
  pub outer : IsEmpty k.outer

pub record IsWipedHmac (s : HmacState) : Type 0 where
  pub inner : IsEmpty s.inner
  pub outer : IsEmpty s.outer
