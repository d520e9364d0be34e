-- What a running CCM stands for. A call has the key, a tag of t bytes, the nonce, and p bytes of payload.
use Rattle.std.specs.Prelude.{◌≡◌, ℕ, ◌≤◌, List, [], ◌∷◌, ◌++◌, length}
use Rattle.crypto_specs.specs.Prelude.{aes_encrypt, number_block, chained, ccm_counter_block, control_block, encoded_data, filled_blocks}
use Rattle.aead_ccm.specs.{Chaining.chained_from, Lengths.IsNonceLength, Lengths.IsPayloadLength}
use Rattle.aead_streams.specs.{declared.counter_width.CounterWidth.TheVariants.Whole, declared.key_stream.KeyStream.KeyStream, Streams.IsAt, Streams.IsClearStream, Chains.chain_after, Chains.data_front, Chains.IsClearChain, declared.ccm_state.CcmState.CcmState}

-- the buffers are zeros
pub record IsClearCcm (s : CcmState) : Type 0 where
  pub chain : IsClearChain s.chain
  pub stream : IsClearStream s.stream
  pub first : s.first ≡ 0

-- the counters are those of the nonce, and n bytes of the key stream are used
pub record CountsFor (first_block : ℕ) (key_stream : KeyStream) (key nonce : List ℕ) (p n : ℕ) : Type 0 where
  pub nonce_length : IsNonceLength (length nonce)
  pub payload_length : IsPayloadLength (length nonce) p
  pub first : number_block first_block ≡ ccm_counter_block nonce 0
  pub start : ℕ
  pub next : number_block start ≡ ccm_counter_block nonce 1
  pub stream : IsAt key_stream (aes_encrypt key) Whole start n

-- the chain after the block B_0
abbrev pub chain_start : (key : List ℕ) → (t : ℕ) → (nonce : List ℕ) → (a p : ℕ) → List ℕ
chain_start key t nonce a p = chained (aes_encrypt key) (control_block t nonce a p ∷ [])

-- of a bytes of associated data that are declared, these are taken in
pub record HoldsCcmData (s : CcmState) (key : List ℕ) (t : ℕ) (nonce : List ℕ) (a p : ℕ) (ad : List ℕ) : Type 0 where
  pub counts : CountsFor s.first s.stream key nonce p 0
  pub within : length ad ≤ a
  pub chain : (rest : List ℕ) → chain_after (aes_encrypt key) s.chain rest ≡
      chained_from (aes_encrypt key) (chain_start key t nonce a p) (filled_blocks (data_front a ++ (ad ++ rest)))

-- the associated data is taken in, and the payload as far as `plain`
pub record HoldsCcmText (s : CcmState) (key : List ℕ) (t : ℕ) (nonce : List ℕ) (p : ℕ) (ad plain : List ℕ) : Type 0 where
  pub counts : CountsFor s.first s.stream key nonce p (length plain)
  pub within : length plain ≤ p
  pub chain : (rest : List ℕ) → chain_after (aes_encrypt key) s.chain rest ≡
      chained_from (aes_encrypt key)
      (chained_from (aes_encrypt key) (chain_start key t nonce (length ad) p) (filled_blocks (encoded_data ad)))
      (filled_blocks (plain ++ rest))
