-- The four hash functions (FIPS 180-4), each as a function from messages to digests.
use Rattle.std.specs.Prelude.{ℕ, List, Option, Some, None, cond, eqb}
use Rattle.sha2.specs.{Sha256.sha224, Sha256.sha256, Sha512.sha384, Sha512.sha512}
use Rattle.hash_ops.specs.{declared.Hash.Hash, declared.Hash.TheVariants.Sha224, declared.Hash.TheVariants.Sha256, declared.Hash.TheVariants.Sha384, declared.Hash.TheVariants.Sha512}

-- the digest of a message
abbrev pub hash_of : Hash → List ℕ → List ℕ
hash_of Sha224 m = sha224 m
hash_of Sha256 m = sha256 m
hash_of Sha384 m = sha384 m
hash_of Sha512 m = sha512 m

-- the bytes of a digest
abbrev pub digest_length : Hash → ℕ
digest_length Sha224 = 28
digest_length Sha256 = 32
digest_length Sha384 = 48
digest_length Sha512 = 64

-- the bytes of a block
abbrev pub block_length : Hash → ℕ
block_length Sha224 = 64
block_length Sha256 = 64
block_length Sha384 = 128
block_length Sha512 = 128

-- the function that has this hash type, the low byte of an algorithm number (PSA Crypto 1.2, hash
-- algorithm encoding)
abbrev pub of_low_byte : ℕ → Option Hash
of_low_byte byte =
    cond (eqb byte 8) (Some Sha224) (
    cond (eqb byte 9) (Some Sha256) (
    cond (eqb byte 10) (Some Sha384) (
    cond (eqb byte 11) (Some Sha512) None)))
