-- PBKDF2 with HMAC-SHA-256: "password", "salt", 2 turns and 20 bytes, the inputs of RFC 6070's second
-- case; the key is what Python's hashlib.pbkdf2_hmac gives for SHA-256.
use Rattle.std.proofs.Common.{List, [], refl, ℕ, ◌∷◌, ◌≡◌}
use Rattle.crypto_specs.proofs.Common.{chain, hmac, key_block, pbkdf2, pbkdf2_block, pbkdf2_blocks, sha256, xor_all}
use Rattle.sha2.specs.Sha256 as sha

abbrev password : List ℕ
password = 0x70 ∷ 0x61 ∷ 0x73 ∷ 0x73 ∷ 0x77 ∷ 0x6f ∷ 0x72 ∷ 0x64 ∷ []

abbrev salt : List ℕ
salt = 0x73 ∷ 0x61 ∷ 0x6c ∷ 0x74 ∷ []

derives : pbkdf2 sha256 64 password salt 2 20 ≡ 0xae ∷ 0x4d ∷ 0x0c ∷ 0x95 ∷ 0xaf ∷ 0x6b ∷ 0x46 ∷ 0xd3 ∷ 0x2d ∷ 0x0a ∷ 0xdf ∷ 0xf9 ∷ 0x28 ∷ 0xf0 ∷ 0x6d ∷ 0xd0 ∷ 0x2a ∷ 0x30 ∷ 0x3f ∷ 0x8e ∷ []
unfolding sha.first_words sha.schedule sha.rounds sha.compress sha.hash_after sha.digest_bytes sha256 key_block hmac chain xor_all pbkdf2_block pbkdf2_blocks pbkdf2
derives = refl
