-- How ECB and CBC make blocks of blocks.
use Rattle.std.specs.Prelude.{ℕ, Bool, true, false, List, ◌++◌, length, drop, if◌then◌else◌}
use Rattle.crypto_specs.specs.Prelude.{aes_encrypt, aes_decrypt, cbc_encrypt, cbc_decrypt, ecb_encrypt, ecb_decrypt}
use Rattle.store_model.specs.Prelude.{Mode, CbcNoPadding, CbcPkcs7}
use Rattle.cipher_states.specs.{declared.ways.Way.Way, declared.ways.Way.TheVariants.EcbEncrypt, declared.ways.Way.TheVariants.EcbDecrypt, declared.ways.Way.TheVariants.CbcEncrypt, declared.ways.Way.TheVariants.CbcDecrypt}

abbrev pub way_of : Mode → Bool → Way
way_of CbcNoPadding encrypts = if encrypts then CbcEncrypt else CbcDecrypt
way_of CbcPkcs7 encrypts = if encrypts then CbcEncrypt else CbcDecrypt
way_of _ encrypts = if encrypts then EcbEncrypt else EcbDecrypt

-- whether each block depends on those before it
abbrev pub chains : Way → Bool
chains EcbEncrypt = false
chains EcbDecrypt = false
chains CbcEncrypt = true
chains CbcDecrypt = true

-- what whole blocks become
abbrev pub processed : Way → (key chain text : List ℕ) → List ℕ
processed EcbEncrypt key chain text = ecb_encrypt (aes_encrypt key) text
processed EcbDecrypt key chain text = ecb_decrypt (aes_decrypt key) text
processed CbcEncrypt key chain text = cbc_encrypt (aes_encrypt key) chain text
processed CbcDecrypt key chain text = cbc_decrypt (aes_decrypt key) chain text

-- the last block of a ciphertext, and a block of 16 bytes where it is empty
abbrev pub last_ciphertext_block : (chain text : List ℕ) → List ℕ
last_ciphertext_block chain text = drop (length text) (chain ++ text)

-- what the blocks after a text are chained with
abbrev pub next_chain : Way → (key chain text : List ℕ) → List ℕ
next_chain EcbEncrypt key chain text = chain
next_chain EcbDecrypt key chain text = chain
next_chain CbcEncrypt key chain text = last_ciphertext_block chain (cbc_encrypt (aes_encrypt key) chain text)
next_chain CbcDecrypt key chain text = last_ciphertext_block chain text
