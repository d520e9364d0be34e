-- What a key for short messages stands for (RFC 2104).
use Rattle.std.specs.Prelude.{ℕ, List}
use Rattle.crypto_specs.specs.Prelude.{inner_pad, outer_pad}
use Rattle.hash_ops.specs.{Hashes.hash_of, Hashes.block_length, declared.Hash.TheVariants.Sha256}
use Rattle.hmac_ops.specs.{FirstBlocks.IsFirstBlock, FirstBlocks.IsWiped, declared.short_message_key.ShortMessageKey.ShortMessageKey}

-- the key has these bytes: its pads were taken in
pub record IsShortMessageKey (k : ShortMessageKey) (key : List ℕ) : Type 0 where
  pub inner : IsFirstBlock k.inner (inner_pad (hash_of Sha256) (block_length Sha256) key)
  pub outer : IsFirstBlock k.outer (outer_pad (hash_of Sha256) (block_length Sha256) key)

-- the hash values are zeros
pub record IsWipedShortMessageKey (k : ShortMessageKey) : Type 0 where
  pub inner : IsWiped k.inner
  pub outer : IsWiped k.outer
