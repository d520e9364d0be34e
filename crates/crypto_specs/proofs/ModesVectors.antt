-- ECB, CBC and CTR: examples of SP 800-38A, appendix F, for AES-128. PKCS#7: RFC 5652, 6.3.
use Rattle.std.proofs.Common.{List, None, Some, [], ap, refl, replicate, sym, take, ℕ, ◌++◌, ◌∙◌, ◌∷◌, ◌≡◌}
use Rattle.crypto_specs.proofs.Common.{aes_decrypt, aes_encrypt, block_number, blocks, cbc_blocks, cbc_decrypt, cbc_encrypt, counter_block, ctr_xor, ecb_decrypt, ecb_encrypt, key_stream, number_block, pkcs7_padded, pkcs7_unpadded, power_of_x, sum_of_shifts}
use Rattle.crypto_specs.proofs.{CipherInverseLists.tried_bytes, CipherInverseKeys.decryption_undoes, ModeLaws.ecb_decryption_undoes_encryption, ModeLaws.cbc_decryption_undoes_encryption, TableAes.by_table, TableAes.rounds_by, TableAes.expanded_by, TableAes.schedule_by, TableAes.encrypt_by, TableAes.table_encrypt, TableAes.encrypts_by_table}

abbrev key : List ℕ
key = 0x2b ∷ 0x7e ∷ 0x15 ∷ 0x16 ∷ 0x28 ∷ 0xae ∷ 0xd2 ∷ 0xa6 ∷ 0xab ∷ 0xf7 ∷ 0x15 ∷ 0x88 ∷ 0x09 ∷ 0xcf ∷ 0x4f ∷ 0x3c ∷ []

-- blocks 1 and 2
abbrev plain_text : List ℕ
plain_text = 0x6b ∷ 0xc1 ∷ 0xbe ∷ 0xe2 ∷ 0x2e ∷ 0x40 ∷ 0x9f ∷ 0x96 ∷ 0xe9 ∷ 0x3d ∷ 0x7e ∷ 0x11 ∷ 0x73 ∷ 0x93 ∷ 0x17 ∷ 0x2a ∷ 0xae ∷ 0x2d ∷ 0x8a ∷ 0x57 ∷ 0x1e ∷ 0x03 ∷ 0xac ∷ 0x9c ∷ 0x9e ∷ 0xb7 ∷ 0x6f ∷ 0xac ∷ 0x45 ∷ 0xaf ∷ 0x8e ∷ 0x51 ∷ []

abbrev ecb_text : List ℕ
ecb_text = 0x3a ∷ 0xd7 ∷ 0x7b ∷ 0xb4 ∷ 0x0d ∷ 0x7a ∷ 0x36 ∷ 0x60 ∷ 0xa8 ∷ 0x9e ∷ 0xca ∷ 0xf3 ∷ 0x24 ∷ 0x66 ∷ 0xef ∷ 0x97 ∷ []

-- F.1.1 and F.1.2, block 1
ecb_encrypts : ecb_encrypt (aes_encrypt key) (take 16 plain_text) ≡ ecb_text
unfolding sum_of_shifts power_of_x by_table rounds_by expanded_by schedule_by encrypt_by table_encrypt blocks ecb_encrypt
ecb_encrypts = ap (λ (e : List ℕ → List ℕ). ecb_encrypt e (take 16 plain_text)) (encrypts_by_table key) ∙ refl

ecb_decrypts : ecb_decrypt (aes_decrypt key) ecb_text ≡ take 16 plain_text
ecb_decrypts =
    ap (ecb_decrypt (aes_decrypt key)) (sym ecb_encrypts)
    ∙ ecb_decryption_undoes_encryption (aes_encrypt key) (aes_decrypt key) (decryption_undoes key (tried_bytes key refl)) (take 16 plain_text) (tried_bytes (take 16 plain_text) refl) refl

abbrev iv : List ℕ
iv = 0x00 ∷ 0x01 ∷ 0x02 ∷ 0x03 ∷ 0x04 ∷ 0x05 ∷ 0x06 ∷ 0x07 ∷ 0x08 ∷ 0x09 ∷ 0x0a ∷ 0x0b ∷ 0x0c ∷ 0x0d ∷ 0x0e ∷ 0x0f ∷ []

abbrev cbc_text : List ℕ
cbc_text = 0x76 ∷ 0x49 ∷ 0xab ∷ 0xac ∷ 0x81 ∷ 0x19 ∷ 0xb2 ∷ 0x46 ∷ 0xce ∷ 0xe9 ∷ 0x8e ∷ 0x9b ∷ 0x12 ∷ 0xe9 ∷ 0x19 ∷ 0x7d ∷ 0x50 ∷ 0x86 ∷ 0xcb ∷ 0x9b ∷ 0x50 ∷ 0x72 ∷ 0x19 ∷ 0xee ∷ 0x95 ∷ 0xdb ∷ 0x11 ∷ 0x3a ∷ 0x91 ∷ 0x76 ∷ 0x78 ∷ 0xb2 ∷ []

-- F.2.1 and F.2.2, blocks 1 and 2
cbc_encrypts : cbc_encrypt (aes_encrypt key) iv plain_text ≡ cbc_text
unfolding sum_of_shifts power_of_x by_table rounds_by expanded_by schedule_by encrypt_by table_encrypt blocks cbc_blocks cbc_encrypt
cbc_encrypts = ap (λ (e : List ℕ → List ℕ). cbc_encrypt e iv plain_text) (encrypts_by_table key) ∙ refl

cbc_decrypts : cbc_decrypt (aes_decrypt key) iv cbc_text ≡ plain_text
cbc_decrypts =
    ap (cbc_decrypt (aes_decrypt key) iv) (sym cbc_encrypts)
    ∙ cbc_decryption_undoes_encryption (aes_encrypt key) (aes_decrypt key) (decryption_undoes key (tried_bytes key refl)) iv plain_text (record { long = refl; bytes = tried_bytes iv refl }) (tried_bytes plain_text refl) refl

abbrev initial_counter : List ℕ
initial_counter = 0xf0 ∷ 0xf1 ∷ 0xf2 ∷ 0xf3 ∷ 0xf4 ∷ 0xf5 ∷ 0xf6 ∷ 0xf7 ∷ 0xf8 ∷ 0xf9 ∷ 0xfa ∷ 0xfb ∷ 0xfc ∷ 0xfd ∷ 0xfe ∷ 0xff ∷ []

abbrev ctr_text : List ℕ
ctr_text = 0x87 ∷ 0x4d ∷ 0x61 ∷ 0x91 ∷ 0xb6 ∷ 0x20 ∷ 0xe3 ∷ 0x26 ∷ 0x1b ∷ 0xef ∷ 0x68 ∷ 0x64 ∷ 0x99 ∷ 0x0d ∷ 0xb6 ∷ 0xce ∷ 0x98 ∷ 0x06 ∷ 0xf6 ∷ 0x6b ∷ 0x79 ∷ 0x70 ∷ 0xfd ∷ 0xff ∷ 0x86 ∷ 0x17 ∷ 0x18 ∷ 0x7b ∷ 0xb9 ∷ 0xff ∷ 0xfd ∷ 0xff ∷ []

-- F.5.1, block 1 and 4 bytes of block 2, where the counter carries
ctr_encrypts : ctr_xor (aes_encrypt key) initial_counter (take 20 plain_text) ≡ take 20 ctr_text
unfolding sum_of_shifts power_of_x by_table rounds_by expanded_by schedule_by encrypt_by table_encrypt block_number number_block counter_block key_stream ctr_xor
ctr_encrypts = ap (λ (e : List ℕ → List ℕ). ctr_xor e initial_counter (take 20 plain_text)) (encrypts_by_table key) ∙ refl

pads_a_part : pkcs7_padded (0x68 ∷ 0x65 ∷ 0x6c ∷ 0x6c ∷ 0x6f ∷ []) ≡ 0x68 ∷ 0x65 ∷ 0x6c ∷ 0x6c ∷ 0x6f ∷ 0x0b ∷ 0x0b ∷ 0x0b ∷ 0x0b ∷ 0x0b ∷ 0x0b ∷ 0x0b ∷ 0x0b ∷ 0x0b ∷ 0x0b ∷ 0x0b ∷ []
unfolding pkcs7_padded
pads_a_part = refl

unpads_a_part : pkcs7_unpadded (0x68 ∷ 0x65 ∷ 0x6c ∷ 0x6c ∷ 0x6f ∷ 0x0b ∷ 0x0b ∷ 0x0b ∷ 0x0b ∷ 0x0b ∷ 0x0b ∷ 0x0b ∷ 0x0b ∷ 0x0b ∷ 0x0b ∷ 0x0b ∷ []) ≡ Some (0x68 ∷ 0x65 ∷ 0x6c ∷ 0x6c ∷ 0x6f ∷ [])
unfolding pkcs7_unpadded
unpads_a_part = refl

pads_a_block : pkcs7_padded iv ≡ iv ++ replicate 16 16
unfolding pkcs7_padded
pads_a_block = refl

unpads_a_block : pkcs7_unpadded (iv ++ replicate 16 16) ≡ Some iv
unfolding pkcs7_unpadded
unpads_a_block = refl

pads_nothing : pkcs7_padded [] ≡ replicate 16 16
unfolding pkcs7_padded
pads_nothing = refl

unpads_nothing : pkcs7_unpadded (replicate 16 16) ≡ Some []
unfolding pkcs7_unpadded
unpads_nothing = refl

refuses_a_changed_byte : pkcs7_unpadded (0x68 ∷ 0x65 ∷ 0x6c ∷ 0x6c ∷ 0x6f ∷ 0x0b ∷ 0x0b ∷ 0x0b ∷ 0x0a ∷ 0x0b ∷ 0x0b ∷ 0x0b ∷ 0x0b ∷ 0x0b ∷ 0x0b ∷ 0x0b ∷ []) ≡ None
unfolding pkcs7_unpadded
refuses_a_changed_byte = refl

refuses_0 : pkcs7_unpadded (take 15 iv ++ 0 ∷ []) ≡ None
unfolding pkcs7_unpadded
refuses_0 = refl

refuses_17 : pkcs7_unpadded (replicate 32 17) ≡ None
unfolding pkcs7_unpadded
refuses_17 = refl
