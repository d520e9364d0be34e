-- What a first block stands for (FIPS 180-4, 6.2.2).
use Rattle.std.specs.Prelude.{◌≡◌, ℕ, List, replicate}
use Rattle.sha2.specs.Sha256.{compress, initial_hash_256}
use Rattle.hmac_ops.specs.declared.first_block.FirstBlock.{FirstBlock}

-- the hash value is that after this block
pub record IsFirstBlock (first : FirstBlock) (block : List ℕ) : Type 0 where
  pub hash_value : first.hash_value ≡ compress initial_hash_256 block

-- the hash value is zeros
pub record IsWiped (first : FirstBlock) : Type 0 where
  pub hash_value : first.hash_value ≡ replicate 8 0
