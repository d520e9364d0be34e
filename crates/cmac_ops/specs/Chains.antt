-- What a chain over a message's blocks stands for (SP 800-38B, 6.2).
use Rattle.std.specs.Prelude.{◌≡◌, ℕ, ◌+◌, ◌*◌, List, [], length, take, drop, replicate}
use Rattle.crypto_specs.specs.Prelude.{aes_encrypt, chained, blocks, number_block}
use Rattle.cmac_ops.specs.declared.chain.Chain.{Chain}

-- under this key, the first blocks of the message are chained, and the block holds what is left of it
pub record IsChained (c : Chain) (key message : List ℕ) : Type 0 where
  pub count : ℕ
  pub value : number_block c.value ≡ chained (aes_encrypt key) (blocks count message)
  pub place : length message ≡ 16 * count + c.used
  pub left : take c.used c.block ≡ drop (16 * count) message

-- the last block is kept back: the block is empty for the empty message alone
pub record ChainHolds (c : Chain) (key message : List ℕ) : Type 0 where
  pub chained : IsChained c key message
  pub kept : c.used ≡ 0 → message ≡ []

-- nothing of a message is left
pub record IsWipedChain (c : Chain) : Type 0 where
  pub value : c.value ≡ 0
  pub block : c.block ≡ replicate 16 0
  pub used : c.used ≡ 0
