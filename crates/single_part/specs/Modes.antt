-- What deciphering gives before the padding is looked at.
use Rattle.std.specs.Prelude.{ℕ, List}
use Rattle.crypto_specs.specs.Prelude.{aes_encrypt, aes_decrypt, ctr_xor, cbc_decrypt, ecb_decrypt}
use Rattle.store_model.specs.Ciphers as model

abbrev pub deciphered_blocks : model.Mode → (key iv text : List ℕ) → List ℕ
deciphered_blocks model.Ctr key iv text = ctr_xor (aes_encrypt key) iv text
deciphered_blocks model.CbcNoPadding key iv text = cbc_decrypt (aes_decrypt key) iv text
deciphered_blocks model.CbcPkcs7 key iv text = cbc_decrypt (aes_decrypt key) iv text
deciphered_blocks model.EcbNoPadding key iv text = ecb_decrypt (aes_decrypt key) text
