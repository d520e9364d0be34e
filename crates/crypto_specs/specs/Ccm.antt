-- CCM (SP 800-38C) over any block cipher e, with the formats of its appendix A. A nonce has 7 to 13
-- bytes, a tag t of 4, 6, .., 16, and the associated data has fewer than 2 ^ 32.
use Rattle.std.specs.{Prelude.ℕ, Prelude.zero, Prelude.suc, Prelude.◌+◌, Prelude.◌-◌, Prelude.◌*◌, Prelude.◌/◌, Prelude.cond, Prelude.nat_lt, Prelude.eqb, Prelude.List, Prelude.[], Prelude.◌∷◌, Prelude.◌++◌, Prelude.length, Prelude.take, Prelude.drop, Int.w16, Int.w32, Int.w64, Int.to_be_bytes}
use Rattle.crypto_specs.specs.{Bytes.xor_bytes, Bytes.zero_filled, Modes.blocks, Modes.block_count, Cmac.chained}

-- q, the bytes of the payload's length and of a counter (A.1)
abbrev pub length_bytes : List ℕ → ℕ
length_bytes nonce = 15 - length nonce

-- the number x in q bytes, first byte highest
abbrev pub in_bytes : ℕ → ℕ → List ℕ
in_bytes q x = drop (8 - q) (to_be_bytes w64 x)

-- the flags of B_0, where there are a bytes of associated data (A.2.1)
abbrev pub flags : ℕ → ℕ → ℕ → ℕ
flags t q a = 64 * cond (eqb a 0) 0 1 + 8 * ((t - 2) / 2) + (q - 1)

-- the block B_0: the flags, the nonce, and p, the bytes of the payload (A.2.1)
unfoldable pub control_block : ℕ → List ℕ → ℕ → ℕ → List ℕ
control_block t nonce a p =
    let q : ℕ = length_bytes nonce in
    flags t q a ∷ nonce ++ in_bytes q p

-- the length of the associated data, encoded (A.2.2)
abbrev pub encoded_length : ℕ → List ℕ
encoded_length a = cond (nat_lt a 65280) (to_be_bytes w16 a) (0xff ∷ 0xfe ∷ to_be_bytes w32 a)

-- what stands for the associated data: nothing where there is none (A.2.2)
unfoldable pub encoded_data : List ℕ → List ℕ
encoded_data ad = cond (eqb (length ad) 0) [] (encoded_length (length ad) ++ ad)

-- a text filled with zeros to whole blocks, as blocks
abbrev pub filled_blocks : List ℕ → List (List ℕ)
filled_blocks text = blocks (block_count (length text)) (zero_filled text)

-- the blocks B_0, .., B_r (A.2)
unfoldable pub formatted_blocks : ℕ → List ℕ → List ℕ → List ℕ → List (List ℕ)
formatted_blocks t nonce ad payload =
    control_block t nonce (length ad) (length payload) ∷ filled_blocks (encoded_data ad) ++ filled_blocks payload

-- the counter block Ctr_i (A.3)
unfoldable pub ccm_counter_block : List ℕ → ℕ → List ℕ
ccm_counter_block nonce i =
    let q : ℕ = length_bytes nonce in
    (q - 1) ∷ nonce ++ in_bytes q i

-- S_1, .., S_n (6.1, steps 5 to 7)
unfoldable pub ccm_stream : (List ℕ → List ℕ) → List ℕ → ℕ → List ℕ
ccm_stream e nonce zero = []
ccm_stream e nonce (suc n) = ccm_stream e nonce n ++ e (ccm_counter_block nonce (n + 1))

-- the payload enciphered, or deciphered (6.1, step 8)
unfoldable pub ccm_text : (List ℕ → List ℕ) → List ℕ → List ℕ → List ℕ
ccm_text e nonce text = xor_bytes text (ccm_stream e nonce (block_count (length text)))

-- the tag of t bytes, over the payload as it is before it is enciphered (6.1, steps 1 to 4, and 8)
unfoldable pub ccm_tag : (List ℕ → List ℕ) → ℕ → List ℕ → List ℕ → List ℕ → List ℕ
ccm_tag e t nonce ad payload =
    take t (xor_bytes (chained e (formatted_blocks t nonce ad payload)) (e (ccm_counter_block nonce 0)))
