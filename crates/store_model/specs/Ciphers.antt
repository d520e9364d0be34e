-- Ciphers of a whole message.
use Rattle.std.specs.Prelude.{ℕ, ◌+◌, ◌-◌, ◌%◌, not, nat_lt, ◌||◌, ◌&&◌, ◌==◌, Bool, true, false, List, ◌∷◌, ◌++◌, length, take, drop, Option, Some, None, if◌then◌else◌}
use Rattle.store_model.specs.Common.{Computed, InvalidArgument, InvalidPadding, Reply, Rows, aes_decrypt, aes_encrypt, cbc_decrypt, cbc_encrypt, computed_unless, ctr_xor, ecb_decrypt, ecb_encrypt, first_row, given, pkcs7_padded, pkcs7_unpadded, reply_unless, spoiled}
use Rattle.store_model.specs.Rules.{room_rows, total_limit}

pub data Mode : Type 0 where
  Ctr : Mode
  CbcNoPadding : Mode
  CbcPkcs7 : Mode
  EcbNoPadding : Mode

abbrev pub mode_of : ℕ → Mode
mode_of alg = if alg == 0x04c01000 then Ctr else if alg == 0x04404000 then CbcNoPadding else if alg == 0x04404100 then CbcPkcs7 else EcbNoPadding

abbrev pub is_ctr : Mode → Bool
is_ctr Ctr = true
is_ctr _ = false

-- the bytes of the initialisation vector, which stands before the ciphertext
abbrev pub iv_length : Mode → ℕ
iv_length EcbNoPadding = 0
iv_length _ = 16

abbrev pub takes_whole_blocks : Mode → Bool
takes_whole_blocks CbcNoPadding = true
takes_whole_blocks EcbNoPadding = true
takes_whole_blocks _ = false

abbrev pub enciphered : Mode → (key iv text : List ℕ) → List ℕ
enciphered Ctr key iv text = ctr_xor (aes_encrypt key) iv text
enciphered CbcNoPadding key iv text = cbc_encrypt (aes_encrypt key) iv text
enciphered CbcPkcs7 key iv text = cbc_encrypt (aes_encrypt key) iv (pkcs7_padded text)
enciphered EcbNoPadding key iv text = ecb_encrypt (aes_encrypt key) text

-- the bytes of the ciphertext of so many bytes
abbrev pub enciphered_length : Mode → ℕ → ℕ
enciphered_length CbcPkcs7 n = n + (16 - n % 16)
enciphered_length _ n = n

-- none where no padding ends the text
abbrev pub deciphered : Mode → (key iv text : List ℕ) → Option (List ℕ)
deciphered Ctr key iv text = Some (ctr_xor (aes_encrypt key) iv text)
deciphered CbcNoPadding key iv text = Some (cbc_decrypt (aes_decrypt key) iv text)
deciphered CbcPkcs7 key iv text = pkcs7_unpadded (cbc_decrypt (aes_decrypt key) iv text)
deciphered EcbNoPadding key iv text = Some (ecb_decrypt (aes_decrypt key) text)

-- cipher_encrypt: a fresh initialisation vector is drawn, and stands before the ciphertext.

abbrev pub encrypt_rows : Mode → (bytes room : ℕ) → Rows
encrypt_rows mode bytes room =
    ((takes_whole_blocks mode && not (bytes % 16 == 0)) || nat_lt total_limit bytes, InvalidArgument)
    ∷ room_rows (iv_length mode + enciphered_length mode bytes) room

abbrev pub encrypted : Mode → (iv key input : List ℕ) → ℕ → Computed
encrypted mode iv key input room =
    computed_unless (first_row (encrypt_rows mode (length input) room)) (record { reply = given (iv ++ enciphered mode key iv input); drawn = iv_length mode })

-- cipher_decrypt: the input begins with the initialisation vector.

abbrev pub is_ciphertext_length : Mode → ℕ → Bool
is_ciphertext_length Ctr n = true
is_ciphertext_length CbcPkcs7 n = n % 16 == 0 && not (n == 0)
is_ciphertext_length _ n = n % 16 == 0

abbrev pub decrypt_rows : Mode → (bytes room : ℕ) → Rows
decrypt_rows mode bytes room =
    (nat_lt bytes (iv_length mode) || not (is_ciphertext_length mode (bytes - iv_length mode)) || nat_lt total_limit bytes, InvalidArgument)
    ∷ room_rows (bytes - iv_length mode) room

-- a text whose padding isn't one leaves zeros
abbrev pub plain_or_zeros : ℕ → Option (List ℕ) → Reply
plain_or_zeros needed (Some text) = record (given text) { needed = needed }
plain_or_zeros needed None = spoiled InvalidPadding needed

abbrev pub decrypted_reply : Mode → (key input : List ℕ) → ℕ → Reply
decrypted_reply mode key input room =
    let n : ℕ = iv_length mode in
    reply_unless (first_row (decrypt_rows mode (length input) room)) (plain_or_zeros (length input - n) (deciphered mode key (take n input) (drop n input)))
