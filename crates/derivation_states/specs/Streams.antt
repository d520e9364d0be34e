-- What a derivation computes, block by block.
use Rattle.std.specs.Prelude.{ℕ, zero, suc, List, [], if◌then◌else◌}
use Rattle.crypto_specs.specs.Prelude.{extract, expand_block, pbkdf2_block}
use Rattle.store_model.specs.{Prelude.digest, Prelude.hash_block_length, Prelude.low_byte, Prelude.bytes_or_empty, Prelude.DerivationWork, Prelude.is_hkdf, DerivationOperations.number_or_zero}

abbrev pub work_hash : DerivationWork → List ℕ → List ℕ
work_hash w = digest (low_byte w.alg)

abbrev pub work_block_length : DerivationWork → ℕ
work_block_length w = hash_block_length (low_byte w.alg)

-- the key of the HMAC that makes the blocks: HKDF's pseudorandom key of the secret, and PBKDF2's password itself
abbrev pub hmac_key : DerivationWork → List ℕ → List ℕ
hmac_key w secret =
    if is_hkdf w.alg then extract (work_hash w) (work_block_length w) (bytes_or_empty w.salt) secret else secret

-- block i, from 1; block 0 has no bytes
abbrev pub block_at : DerivationWork → ℕ → List ℕ
block_at w zero = []
block_at w (suc i) =
    if is_hkdf w.alg then
    expand_block (work_hash w) (work_block_length w) (extract (work_hash w) (work_block_length w) (bytes_or_empty w.salt) (bytes_or_empty w.secret)) (bytes_or_empty w.info) (suc i)
    else pbkdf2_block (work_hash w) (work_block_length w) (bytes_or_empty w.secret) (bytes_or_empty w.salt) (number_or_zero w.cost) (suc i)
