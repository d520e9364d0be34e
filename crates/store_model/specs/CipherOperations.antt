-- A cipher in several parts.
use Rattle.std.specs.Prelude.{ℕ, ◌-◌, ◌*◌, ◌/◌, ◌%◌, Bool, not, ◌&&◌, ◌||◌, ◌==◌, List, [], ◌∷◌, ◌++◌, length, take, drop, Option, Some, None, is_some, if◌then◌else◌}
use Rattle.store_model.specs.{Common.BadState, Common.InvalidArgument, Common.InvalidPadding, Common.Rows, Common.aes_decrypt, Common.aes_encrypt, Common.cbc_decrypt, Common.cbc_encrypt, Common.ctr_xor, Common.done, Common.ecb_decrypt, Common.ecb_encrypt, Common.first_row, Common.given, Common.option_map_or, Common.spoiled, Rules.room_rows, HashOperations.total_rows}
use Rattle.store_model.specs.{Ciphers.Mode, Ciphers.Ctr, Ciphers.CbcNoPadding, Ciphers.CbcPkcs7, Ciphers.EcbNoPadding, Ciphers.mode_of, Ciphers.iv_length, Ciphers.takes_whole_blocks, Ciphers.is_ciphertext_length, Ciphers.enciphered, Ciphers.deciphered, Operations.InError, Operations.Active, Operations.After, Operations.goes_on, Operations.ends, Operations.unless_failed}

-- whether the text is encrypted, the algorithm, the key, the initialisation vector once it is there, and the text so far
pub record CipherWork : Type 0 where
  pub encrypts : Bool
  pub alg : ℕ
  pub key : List ℕ
  pub iv : Option (List ℕ)
  pub text : List ℕ

pub data CipherStep : Type 0 where
  CipherGenerateIv : (room : ℕ) → CipherStep
  CipherSetIv : (iv : List ℕ) → CipherStep
  CipherUpdate : (input : List ℕ) (room : ℕ) → CipherStep
  CipherFinish : (room : ℕ) → CipherStep

abbrev pub cipher_work : Bool → ℕ → List ℕ → CipherWork
cipher_work encrypts alg key = record { encrypts = encrypts; alg = alg; key = key; iv = None; text = [] }

abbrev pub bytes_or_empty : Option (List ℕ) → List ℕ
bytes_or_empty found = option_map_or (λ bytes. bytes) found []

-- THE OUTPUT THAT IS DUE: CTR gives each byte at once, and the others each whole block; decryption under
-- CBC_PKCS7 keeps the last whole block back, since it may hold the padding

abbrev pub whole_blocks : List ℕ → List ℕ
whole_blocks text = take (16 * (length text / 16)) text

abbrev pub due_enciphered : Mode → (key iv text : List ℕ) → List ℕ
due_enciphered Ctr key iv text = ctr_xor (aes_encrypt key) iv text
due_enciphered EcbNoPadding key iv text = ecb_encrypt (aes_encrypt key) (whole_blocks text)
due_enciphered _ key iv text = cbc_encrypt (aes_encrypt key) iv (whole_blocks text)

abbrev pub due_deciphered : Mode → (key iv text : List ℕ) → List ℕ
due_deciphered Ctr key iv text = ctr_xor (aes_encrypt key) iv text
due_deciphered CbcNoPadding key iv text = cbc_decrypt (aes_decrypt key) iv (whole_blocks text)
due_deciphered CbcPkcs7 key iv text = cbc_decrypt (aes_decrypt key) iv (take (16 * ((length text - 1) / 16)) text)  -- (n - 1) / 16 blocks of n bytes, and none of no bytes
due_deciphered EcbNoPadding key iv text = ecb_decrypt (aes_decrypt key) (whole_blocks text)

abbrev pub cipher_due : CipherWork → List ℕ
cipher_due w =
    if w.encrypts then due_enciphered (mode_of w.alg) w.key (bytes_or_empty w.iv) w.text
    else due_deciphered (mode_of w.alg) w.key (bytes_or_empty w.iv) w.text

-- an update gives what is due after it, without what was due before
abbrev pub cipher_fresh : (before after : CipherWork) → List ℕ
cipher_fresh before after = drop (length (cipher_due before)) (cipher_due after)

abbrev pub takes_iv : CipherWork → Bool
takes_iv w = not (iv_length (mode_of w.alg) == 0) && not (is_some w.iv)

-- whether text may come: the initialisation vector is there, or the mode has none
abbrev pub takes_text : CipherWork → Bool
takes_text w = is_some w.iv || iv_length (mode_of w.alg) == 0

abbrev pub with_iv : CipherWork → List ℕ → CipherWork
with_iv w iv = record w { iv = Some iv }

abbrev pub with_text : CipherWork → List ℕ → CipherWork
with_text w input = record w { text = w.text ++ input }

abbrev pub generate_iv_rows : CipherWork → ℕ → Rows
generate_iv_rows w room = (not (w.encrypts && takes_iv w), BadState) ∷ room_rows 16 room

abbrev pub set_iv_rows : CipherWork → List ℕ → Rows
set_iv_rows w iv = (not (takes_iv w), BadState) ∷ (not (length iv == 16), InvalidArgument) ∷ []

abbrev pub cipher_update_rows : CipherWork → List ℕ → ℕ → Rows
cipher_update_rows w input room =
    (not (takes_text w), BadState)
    ∷ total_rows (length w.text) (length input)
    ++ room_rows (length (cipher_fresh w (with_text w input))) room

-- whether a text of so many bytes is permitted as a whole
abbrev pub is_whole_text : CipherWork → Bool
is_whole_text w =
    if w.encrypts then (not (takes_whole_blocks (mode_of w.alg)) || length w.text % 16 == 0)
    else is_ciphertext_length (mode_of w.alg) (length w.text)

-- a finish needs room for one block where there is padding
abbrev pub last_length : Mode → ℕ
last_length CbcPkcs7 = 16
last_length _ = 0

abbrev pub cipher_finish_rows : CipherWork → ℕ → Rows
cipher_finish_rows w room =
    (not (takes_text w), BadState)
    ∷ (not (is_whole_text w), InvalidArgument)
    ∷ room_rows (last_length (mode_of w.alg)) room

-- the rest of the text; zeros, and the operation in error, where no padding ends it
abbrev pub last_part : CipherWork → Option (List ℕ) → After CipherWork
last_part w (Some text) = ends (record (given (drop (length (cipher_due w)) text)) { needed = last_length (mode_of w.alg) })
last_part w None = record { operation = InError; reply = spoiled InvalidPadding (last_length (mode_of w.alg)); drawn = 0 }

abbrev pub whole_text : CipherWork → Option (List ℕ)
whole_text w =
    if w.encrypts then Some (enciphered (mode_of w.alg) w.key (bytes_or_empty w.iv) w.text)
    else deciphered (mode_of w.alg) w.key (bytes_or_empty w.iv) w.text

-- one step, where `random` has the caller's next 16 random bytes
abbrev pub cipher_step : List ℕ → CipherWork → CipherStep → After CipherWork
cipher_step random w (CipherGenerateIv room) =
    unless_failed (first_row (generate_iv_rows w room)) (record { operation = Active (with_iv w random); reply = given random; drawn = 16 })
cipher_step random w (CipherSetIv iv) = unless_failed (first_row (set_iv_rows w iv)) (goes_on (with_iv w iv) done)
cipher_step random w (CipherUpdate input room) =
    unless_failed (first_row (cipher_update_rows w input room)) (goes_on (with_text w input) (given (cipher_fresh w (with_text w input))))
cipher_step random w (CipherFinish room) = unless_failed (first_row (cipher_finish_rows w room)) (last_part w (whole_text w))
