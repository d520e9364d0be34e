-- AEADs of a whole message: the ciphertext, and the tag behind it.
use Rattle.std.specs.Prelude.{ℕ, ◌+◌, ◌-◌, ◌*◌, ◌^◌, not, nat_lt, nat_le, ◌||◌, ◌&&◌, ◌==◌, bytes_eq, Bool, List, ◌∷◌, ◌++◌, length, take, drop, if◌then◌else◌}
use Rattle.store_model.specs.{Common.InvalidArgument, Common.InvalidSignature, Common.Reply, Common.Rows, Common.aes_encrypt, Common.base_of, Common.ccm_tag, Common.ccm_text, Common.first_row, Common.gcm_tag, Common.gcm_text, Common.given, Common.reply_unless, Common.spoiled, Common.tag_bytes, Rules.room_rows, Rules.total_limit}

abbrev pub is_ccm : ℕ → Bool
is_ccm alg = base_of alg == 0x05400100

-- CCM takes nonces of 7 to 13 bytes, GCM of 1 to 256
abbrev pub permits_nonce : ℕ → ℕ → Bool
permits_nonce alg n = if is_ccm alg then (nat_le 7 n && nat_le n 13) else (nat_le 1 n && nat_le n 256)

-- the payload's length fits the bytes that CCM has for it beside a nonce of n bytes, and none is past the total
abbrev pub permits_payload : ℕ → (nonce payload : ℕ) → Bool
permits_payload alg n payload = nat_le payload total_limit && (not (is_ccm alg) || nat_lt payload (2 ^ (8 * (15 - n))))

abbrev pub permits_lengths : ℕ → (nonce ad payload : ℕ) → Bool
permits_lengths alg nonce ad payload = permits_nonce alg nonce && nat_le ad total_limit && permits_payload alg nonce payload

abbrev pub aead_text : ℕ → (key nonce text : List ℕ) → List ℕ
aead_text alg key nonce text = if is_ccm alg then ccm_text (aes_encrypt key) nonce text else gcm_text (aes_encrypt key) nonce text

-- the tag: CCM's over the plaintext, GCM's over the ciphertext
abbrev pub aead_tag : ℕ → (key nonce ad plain cipher : List ℕ) → List ℕ
aead_tag alg key nonce ad plain cipher =
    if is_ccm alg then ccm_tag (aes_encrypt key) (tag_bytes alg) nonce ad plain
    else gcm_tag (aes_encrypt key) (tag_bytes alg) nonce ad cipher

-- aead_encrypt
abbrev pub encrypt_rows : ℕ → (nonce ad payload room : ℕ) → Rows
encrypt_rows alg nonce ad payload room = (not (permits_lengths alg nonce ad payload), InvalidArgument) ∷ room_rows (payload + tag_bytes alg) room

abbrev pub sealed : ℕ → (key nonce ad text : List ℕ) → List ℕ
sealed alg key nonce ad text = let cipher : List ℕ = aead_text alg key nonce text in cipher ++ aead_tag alg key nonce ad text cipher

abbrev pub sealed_reply : ℕ → (key nonce ad input : List ℕ) → ℕ → Reply
sealed_reply alg key nonce ad input room =
    reply_unless (first_row (encrypt_rows alg (length nonce) (length ad) (length input) room)) (given (sealed alg key nonce ad input))

-- aead_decrypt: the input ends with the tag.
abbrev pub decrypt_rows : ℕ → (nonce ad input room : ℕ) → Rows
decrypt_rows alg nonce ad input room =
    (nat_lt input (tag_bytes alg) || not (permits_lengths alg nonce ad (input - tag_bytes alg)), InvalidArgument)
    ∷ room_rows (input - tag_bytes alg) room

-- what a tag opens, and zeros where it isn't the text's
abbrev pub opened_text : ℕ → (key nonce ad cipher tag : List ℕ) → Reply
opened_text alg key nonce ad cipher tag =
    let plain : List ℕ = aead_text alg key nonce cipher in
    if bytes_eq tag (aead_tag alg key nonce ad plain cipher) then given plain else spoiled InvalidSignature (length cipher)

abbrev pub opened_reply : ℕ → (key nonce ad input : List ℕ) → ℕ → Reply
opened_reply alg key nonce ad input room =
    let n : ℕ = length input - tag_bytes alg in
    reply_unless (first_row (decrypt_rows alg (length nonce) (length ad) (length input) room)) (opened_text alg key nonce ad (take n input) (drop n input))
