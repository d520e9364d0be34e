-- What runs over the associated data and the text.
use Rattle.std.specs.Prelude.{ℕ, Bool, List, MatchBool, if◌then◌else◌}
use Rattle.crypto_specs.specs.Prelude.{aes_encrypt, ccm_text, gcm_text}
use Rattle.aead_streams.specs.{GcmStates.HoldsGcmData, GcmStates.HoldsGcmText, GcmStates.IsClearGcm, CcmStates.HoldsCcmData, CcmStates.HoldsCcmText, CcmStates.IsClearCcm}
use Rattle.store_model.specs.Prelude.{is_ccm, tag_bytes}
use Rattle.aead_states.specs.declared.parts.Parts.{Parts}

-- a text in the clear and enciphered, by whether it is encrypted, where f enciphers and deciphers
abbrev pub plain_of : Bool → (List ℕ → List ℕ) → List ℕ → List ℕ
plain_of encrypts f text = if encrypts then text else f text

abbrev pub cipher_of : Bool → (List ℕ → List ℕ) → List ℕ → List ℕ
cipher_of encrypts f text = if encrypts then f text else text

-- all buffers are zeros
pub record IsClearParts (r : Parts) : Type 0 where
  pub gcm : IsClearGcm r.gcm
  pub ccm : IsClearCcm r.ccm

-- of a bytes of associated data and p of payload that CCM asks for, this associated data is taken in
pub record HoldsData (r : Parts) (alg : ℕ) (key nonce : List ℕ) (a p : ℕ) (ad : List ℕ) : Type 0 where
  pub part : MatchBool (is_ccm alg)
      (HoldsCcmData r.ccm key (tag_bytes alg) nonce a p ad)
      (HoldsGcmData r.gcm key nonce ad)

-- the associated data is taken in, and so much of the text: CCM's tag covers the plaintext, GCM's the ciphertext
pub record HoldsPayload (r : Parts) (encrypts : Bool) (alg : ℕ) (key nonce : List ℕ) (p : ℕ) (ad text : List ℕ) : Type 0 where
  pub part : MatchBool (is_ccm alg)
      (HoldsCcmText r.ccm key (tag_bytes alg) nonce p ad (plain_of encrypts (ccm_text (aes_encrypt key) nonce) text))
      (HoldsGcmText r.gcm key nonce ad (cipher_of encrypts (gcm_text (aes_encrypt key) nonce) text))
