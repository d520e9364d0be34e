-- What a running GCM (SP 800-38D) stands for.
use Rattle.std.specs.Prelude.{◌≡◌, ℕ, List, length}
use Rattle.crypto_specs.specs.Prelude.{aes_encrypt, ghash_from, initial_counter_block, hash_subkey, increased, numbers_of}
use Rattle.aead_streams.specs.{declared.counter_width.CounterWidth.TheVariants.Low32, Streams.IsAt, Streams.IsClearStream, TextHashes.HasTaken, TextHashes.IsClearTextHash, declared.gcm_state.GcmState.GcmState}

-- n bytes of the text's key stream are used (7.1, step 3)
abbrev pub IsAtByte : GcmState → List ℕ → List ℕ → ℕ → Type 0
IsAtByte s key nonce n = IsAt s.stream (aes_encrypt key) Low32 (increased (initial_counter_block (aes_encrypt key) nonce) 1) n

-- under this key and nonce the state has taken in this associated data, of which more may come
pub record HoldsGcmData (s : GcmState) (key nonce ad : List ℕ) : Type 0 where
  pub hash : HasTaken s.hash (hash_subkey (aes_encrypt key)) 0 ad
  pub stream : IsAtByte s key nonce 0
  pub first : s.first ≡ initial_counter_block (aes_encrypt key) nonce

-- it has taken in all of the associated data, filled with zeros, and after it this ciphertext
pub record HoldsGcmText (s : GcmState) (key nonce ad cipher : List ℕ) : Type 0 where
  pub hash : HasTaken s.hash (hash_subkey (aes_encrypt key)) (ghash_from (hash_subkey (aes_encrypt key)) 0 (numbers_of ad)) cipher
  pub stream : IsAtByte s key nonce (length cipher)
  pub first : s.first ≡ initial_counter_block (aes_encrypt key) nonce

-- the buffers are zeros
pub record IsClearGcm (s : GcmState) : Type 0 where
  pub hash : IsClearTextHash s.hash
  pub stream : IsClearStream s.stream
  pub first : s.first ≡ 0
