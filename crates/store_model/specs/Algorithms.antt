-- What an algorithm number computes, by the standards' definitions.
use Rattle.std.specs.{Prelude.ℕ, Prelude.◌%◌, Prelude.◌/◌, Prelude.◌^◌, Prelude.Bool, Prelude.◌==◌, Prelude.List, Prelude.take, Prelude.if◌then◌else◌, Prelude.Option, Option.option_map_or}
use Rattle.sha2.specs.{Sha256.sha224, Sha256.sha256, Sha512.sha384, Sha512.sha512}
use Rattle.alg_encoding.specs.{Encoding.base_of, Encoding.tag_length_of, Table.named_hash_length}
use Rattle.crypto_specs.specs.Prelude.{aes_encrypt, cmac, hmac}

-- the hash function of an algorithm number's low byte (FIPS 180-4)
abbrev pub digest : ℕ → List ℕ → List ℕ
digest byte message =
    if byte == 8 then sha224 message
    else if byte == 9 then sha256 message
    else if byte == 10 then sha384 message
    else sha512 message

abbrev pub hash_block_length : ℕ → ℕ
hash_block_length byte = if byte == 8 then 64 else if byte == 9 then 64 else 128

abbrev pub low_byte : ℕ → ℕ
low_byte alg = alg % 2 ^ 8

abbrev pub hash_of : ℕ → List ℕ → List ℕ
hash_of alg message = digest (low_byte alg) message

abbrev pub hash_length_of : ℕ → ℕ
hash_length_of alg = named_hash_length (low_byte alg)

abbrev pub cmac_base : ℕ
cmac_base = 0x03c00200

abbrev pub is_hmac : ℕ → Bool
is_hmac alg = base_of alg / 2 ^ 8 == 0x038000

abbrev pub number_or_zero : Option ℕ → ℕ
number_or_zero found = option_map_or (λ n. n) found 0

-- the bytes of a MAC, or of the tag of an AEAD
abbrev pub tag_bytes : ℕ → ℕ
tag_bytes alg = number_or_zero (tag_length_of alg)

-- the MAC of a message: CMAC over AES, or HMAC over the hash of the low byte; a shorter one is its first bytes
abbrev pub whole_mac : ℕ → List ℕ → List ℕ → List ℕ
whole_mac alg key message =
    if base_of alg == cmac_base then cmac (aes_encrypt key) message
    else hmac (digest (low_byte alg)) (hash_block_length (low_byte alg)) key message

abbrev pub mac_of : ℕ → List ℕ → List ℕ → List ℕ
mac_of alg key message = take (tag_bytes alg) (whole_mac alg key message)
