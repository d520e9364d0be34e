-- CCM: examples of SP 800-38C, appendix C.
use Rattle.std.proofs.Common.{List, [], ap, arith, refl, sym, ℕ, ◌∙◌, ◌∷◌, ◌≡◌}
use Rattle.crypto_specs.proofs.{Common.aes_encrypt, Common.blocks, Common.ccm_counter_block, Common.ccm_stream, Common.ccm_tag, Common.ccm_text, Common.chained, Common.control_block, Common.encoded_data, Common.encoded_length, Common.formatted_blocks, Common.power_of_x, Common.sum_of_shifts, Blocks.length-aes_encrypt, ModeLaws.ccm_text_undoes_itself}
use Rattle.crypto_specs.proofs.TableAes.{by_table, rounds_by, expanded_by, schedule_by, encrypt_by, table_encrypt, encrypts_by_table}

abbrev key : List ℕ
key = 0x40 ∷ 0x41 ∷ 0x42 ∷ 0x43 ∷ 0x44 ∷ 0x45 ∷ 0x46 ∷ 0x47 ∷ 0x48 ∷ 0x49 ∷ 0x4a ∷ 0x4b ∷ 0x4c ∷ 0x4d ∷ 0x4e ∷ 0x4f ∷ []

abbrev nonce : List ℕ
nonce = 0x10 ∷ 0x11 ∷ 0x12 ∷ 0x13 ∷ 0x14 ∷ 0x15 ∷ 0x16 ∷ []

abbrev associated_data : List ℕ
associated_data = 0x00 ∷ 0x01 ∷ 0x02 ∷ 0x03 ∷ 0x04 ∷ 0x05 ∷ 0x06 ∷ 0x07 ∷ []

abbrev payload : List ℕ
payload = 0x20 ∷ 0x21 ∷ 0x22 ∷ 0x23 ∷ []

abbrev cipher_text : List ℕ
cipher_text = 0x71 ∷ 0x62 ∷ 0x01 ∷ 0x5b ∷ []

-- example 1
enciphers : ccm_text (aes_encrypt key) nonce payload ≡ cipher_text
unfolding sum_of_shifts power_of_x by_table rounds_by expanded_by schedule_by encrypt_by table_encrypt ccm_counter_block ccm_stream ccm_text
enciphers = ap (λ (e : List ℕ → List ℕ). ccm_text e nonce payload) (encrypts_by_table key) ∙ refl

deciphers : ccm_text (aes_encrypt key) nonce cipher_text ≡ payload
deciphers =
    ap (ccm_text (aes_encrypt key) nonce) (sym enciphers) ∙ ccm_text_undoes_itself (aes_encrypt key) (λ b h. length-aes_encrypt key b) nonce payload (omega arith) (omega arith)

tags : ccm_tag (aes_encrypt key) 4 nonce associated_data payload ≡ 0x4d ∷ 0xac ∷ 0x25 ∷ 0x5d ∷ []
unfolding sum_of_shifts power_of_x by_table rounds_by expanded_by schedule_by encrypt_by table_encrypt blocks chained control_block encoded_data formatted_blocks ccm_counter_block ccm_tag
tags = ap (λ (e : List ℕ → List ℕ). ccm_tag e 4 nonce associated_data payload) (encrypts_by_table key) ∙ refl

-- the blocks of example 1
formats : formatted_blocks 4 nonce associated_data payload ≡ (0x4f ∷ 0x10 ∷ 0x11 ∷ 0x12 ∷ 0x13 ∷ 0x14 ∷ 0x15 ∷ 0x16 ∷ 0x00 ∷ 0x00 ∷ 0x00 ∷ 0x00 ∷ 0x00 ∷ 0x00 ∷ 0x00 ∷ 0x04 ∷ []) ∷ (0x00 ∷ 0x08 ∷ 0x00 ∷ 0x01 ∷ 0x02 ∷ 0x03 ∷ 0x04 ∷ 0x05 ∷ 0x06 ∷ 0x07 ∷ 0x00 ∷ 0x00 ∷ 0x00 ∷ 0x00 ∷ 0x00 ∷ 0x00 ∷ []) ∷ (0x20 ∷ 0x21 ∷ 0x22 ∷ 0x23 ∷ 0x00 ∷ 0x00 ∷ 0x00 ∷ 0x00 ∷ 0x00 ∷ 0x00 ∷ 0x00 ∷ 0x00 ∷ 0x00 ∷ 0x00 ∷ 0x00 ∷ 0x00 ∷ []) ∷ []
unfolding blocks control_block encoded_data formatted_blocks
formats = refl

-- the length of the associated data of example 4
encodes_a_long_length : encoded_length 65536 ≡ 0xff ∷ 0xfe ∷ 0x00 ∷ 0x01 ∷ 0x00 ∷ 0x00 ∷ []
encodes_a_long_length = refl
