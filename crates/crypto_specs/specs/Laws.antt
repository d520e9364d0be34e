-- Laws of the definitions, each on a function of src/lib.rt.
use Rattle.std.specs.{Prelude.ℕ, Prelude.◌+◌, Prelude.◌%◌, Prelude.◌<◌, Prelude.◌≤◌, Prelude.◌≡◌, Prelude.List, Prelude.[], Prelude.length, Prelude.Some, Prelude.bit_xor, List.All}
use Rattle.crypto_specs.specs.{Aes.aes_encrypt, AesInverse.aes_decrypt, Modes.ecb_encrypt, Modes.ecb_decrypt, Modes.cbc_encrypt, Modes.cbc_decrypt, Modes.ctr_xor, Modes.ctr_pieces, Modes.joined, Modes.pkcs7_padded, Modes.pkcs7_unpadded, Ccm.ccm_text, Ghash.block_product, Gcm.gcm_text, Hmac.hmac, Hkdf.hash_length, Hkdf.extract}

-- a list of bytes
abbrev pub AreBytes : List ℕ → Type 0
AreBytes xs = All (λ b. b < 256) xs

-- a block: 16 bytes
pub record IsBlock (b : List ℕ) : Type 0 where
  pub long : length b ≡ 16
  pub bytes : AreBytes b

-- e gives a block for each block, and d gives the first one back
pub record IsUndoneBy (e d : List ℕ → List ℕ) : Type 0 where
  pub block : (b : List ℕ) → IsBlock b → IsBlock (e b)
  pub undone : (b : List ℕ) → IsBlock b → d (e b) ≡ b

-- e gives 16 numbers for each 16
abbrev pub KeepsLength : (List ℕ → List ℕ) → Type 0
KeepsLength e = (b : List ℕ) → length b ≡ 16 → length (e b) ≡ 16

-- ---- AES, under a key of any length

abbrev pub DecryptionUndoesEncryption : Type 0
DecryptionUndoesEncryption = (k : List ℕ) → AreBytes k → IsUndoneBy (aes_encrypt k) (aes_decrypt k)

abbrev pub EncryptionUndoesDecryption : Type 0
EncryptionUndoesDecryption = (k : List ℕ) → AreBytes k → IsUndoneBy (aes_decrypt k) (aes_encrypt k)

-- ---- the modes, over a cipher e that d undoes

-- ECB decryption undoes encryption, of a text of whole blocks
abbrev pub EcbDecryptionUndoesEncryption : Type 0
EcbDecryptionUndoesEncryption =
    (e d : List ℕ → List ℕ) → IsUndoneBy e d → (text : List ℕ) → AreBytes text → length text % 16 ≡ 0
    → ecb_decrypt d (ecb_encrypt e text) ≡ text

-- CBC decryption undoes encryption, of a text of whole blocks
abbrev pub CbcDecryptionUndoesEncryption : Type 0
CbcDecryptionUndoesEncryption =
    (e d : List ℕ → List ℕ) → IsUndoneBy e d → (iv text : List ℕ) → IsBlock iv → AreBytes text → length text % 16 ≡ 0
    → cbc_decrypt d iv (cbc_encrypt e iv text) ≡ text

-- CTR undoes itself, at any length
abbrev pub CtrUndoesItself : Type 0
CtrUndoesItself = (e : List ℕ → List ℕ) → KeepsLength e → (iv text : List ℕ) → ctr_xor e iv (ctr_xor e iv text) ≡ text

-- CTR of a text is that of its pieces, however the text is cut
abbrev pub AnyCuttingIsTheSame : Type 0
AnyCuttingIsTheSame =
    (e : List ℕ → List ℕ) → KeepsLength e → (iv : List ℕ) (pieces : List (List ℕ))
    → ctr_pieces e iv 0 pieces ≡ ctr_xor e iv (joined pieces)

-- the texts of CCM and of GCM undo themselves
abbrev pub CcmTextUndoesItself : Type 0
CcmTextUndoesItself =
    (e : List ℕ → List ℕ) → KeepsLength e → (nonce text : List ℕ) → 7 ≤ length nonce → length nonce ≤ 13
    → ccm_text e nonce (ccm_text e nonce text) ≡ text

abbrev pub GcmTextUndoesItself : Type 0
GcmTextUndoesItself = (e : List ℕ → List ℕ) → KeepsLength e → (nonce text : List ℕ) → gcm_text e nonce (gcm_text e nonce text) ≡ text

-- ---- PKCS#7

-- padding fills whole blocks, by at least one byte and at most 16
abbrev pub PaddingFillsBlocks : Type 0
PaddingFillsBlocks =
    (message : List ℕ) → (length (pkcs7_padded message) % 16 ≡ 0) × ((length message < length (pkcs7_padded message)) × (length (pkcs7_padded message) ≤ length message + 16))

-- unpadding undoes padding
abbrev pub UnpaddingUndoesPadding : Type 0
UnpaddingUndoesPadding = (message : List ℕ) → pkcs7_unpadded (pkcs7_padded message) ≡ Some message

-- and a text of whole blocks that unpads is a padded message
abbrev pub OnlyPaddedTextsUnpad : Type 0
OnlyPaddedTextsUnpad =
    (text message : List ℕ) → length text % 16 ≡ 0 → pkcs7_unpadded text ≡ Some message → pkcs7_padded message ≡ text

-- ---- the product of blocks in GHASH

abbrev pub FirstFactorIsLinear : Type 0
FirstFactorIsLinear = (a b v : ℕ) → block_product (bit_xor a b) v ≡ bit_xor (block_product a v) (block_product b v)

abbrev pub SecondFactorIsLinear : Type 0
SecondFactorIsLinear = (a v w : ℕ) → block_product a (bit_xor v w) ≡ bit_xor (block_product a v) (block_product a w)

-- ---- HKDF: an absent salt is the empty key, where a digest isn't longer than a block

abbrev pub AbsentSaltIsEmptyKey : Type 0
AbsentSaltIsEmptyKey =
    (hash : List ℕ → List ℕ) (n : ℕ) (secret : List ℕ) → hash_length hash ≤ n → extract hash n [] secret ≡ hmac hash n [] secret
