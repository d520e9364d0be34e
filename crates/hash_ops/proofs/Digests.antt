-- The lengths of digests and blocks.
use Rattle.std.proofs.Common.{List, arith, length, ℕ, ◌≡◌, ◌≤◌}
use Rattle.sha2.proofs.{Facts256.length-sha224, Facts256.length-sha256, Facts512.length-sha384, Facts512.length-sha512}
use Rattle.hash_ops.specs.{Hashes.hash_of, Hashes.digest_length, Hashes.block_length, declared.Hash.Hash, declared.Hash.TheVariants.Sha224, declared.Hash.TheVariants.Sha256, declared.Hash.TheVariants.Sha384, declared.Hash.TheVariants.Sha512}

pub length-hash_of : (which : Hash) (m : List ℕ) → length (hash_of which m) ≡ digest_length which
length-hash_of Sha224 m = length-sha224 m
length-hash_of Sha256 m = length-sha256 m
length-hash_of Sha384 m = length-sha384 m
length-hash_of Sha512 m = length-sha512 m

-- a digest fits a block, a block has at most 128 bytes, and a digest at most 64
pub length_bounds : (which : Hash) → (digest_length which ≤ block_length which) × (block_length which ≤ 128) × (digest_length which ≤ 64)
length_bounds Sha224 = (omega arith, omega arith, omega arith)
length_bounds Sha256 = (omega arith, omega arith, omega arith)
length_bounds Sha384 = (omega arith, omega arith, omega arith)
length_bounds Sha512 = (omega arith, omega arith, omega arith)
