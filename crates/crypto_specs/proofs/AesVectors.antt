-- AES: the examples of FIPS 197. Appendix C has the ciphers for all three key sizes.

-- sections 4.2 and 4.2.1
use Rattle.std.proofs.Common.{List, [], ap, drop, refl, sym, ℕ, ◌∙◌, ◌∷◌, ◌≡◌}
use Rattle.crypto_specs.proofs.{CipherInverseLists.tried_bytes, CipherInverseKeys.decryption_undoes, Common.aes_decrypt, Common.aes_encrypt, Common.affine_bits, Common.expanded, Common.gf_mul, Common.inverse_from, Common.key_schedule, Common.power_of_x, Common.rounds, Common.sbox, Common.sum_of_shifts, Common.xtime}

product : gf_mul 0x57 0x83 ≡ 0xc1
unfolding sum_of_shifts
product = refl

product_with_x : xtime 0x57 ≡ 0xae
product_with_x = refl

-- section 5.1.1
substitution : sbox 0x53 ≡ 0xed
unfolding sum_of_shifts inverse_from affine_bits sbox
substitution = refl

-- appendix A: the last word of each schedule
key_expansion_128 : drop 172 (key_schedule (0x2b ∷ 0x7e ∷ 0x15 ∷ 0x16 ∷ 0x28 ∷ 0xae ∷ 0xd2 ∷ 0xa6 ∷ 0xab ∷ 0xf7 ∷ 0x15 ∷ 0x88 ∷ 0x09 ∷ 0xcf ∷ 0x4f ∷ 0x3c ∷ [])) ≡ 0xb6 ∷ 0x63 ∷ 0x0c ∷ 0xa6 ∷ []
unfolding sum_of_shifts inverse_from affine_bits sbox power_of_x expanded key_schedule
key_expansion_128 = refl

key_expansion_192 : drop 204 (key_schedule (0x8e ∷ 0x73 ∷ 0xb0 ∷ 0xf7 ∷ 0xda ∷ 0x0e ∷ 0x64 ∷ 0x52 ∷ 0xc8 ∷ 0x10 ∷ 0xf3 ∷ 0x2b ∷ 0x80 ∷ 0x90 ∷ 0x79 ∷ 0xe5 ∷ 0x62 ∷ 0xf8 ∷ 0xea ∷ 0xd2 ∷ 0x52 ∷ 0x2c ∷ 0x6b ∷ 0x7b ∷ [])) ≡ 0x01 ∷ 0x00 ∷ 0x22 ∷ 0x02 ∷ []
unfolding sum_of_shifts inverse_from affine_bits sbox power_of_x expanded key_schedule
key_expansion_192 = refl

key_expansion_256 : drop 236 (key_schedule (0x60 ∷ 0x3d ∷ 0xeb ∷ 0x10 ∷ 0x15 ∷ 0xca ∷ 0x71 ∷ 0xbe ∷ 0x2b ∷ 0x73 ∷ 0xae ∷ 0xf0 ∷ 0x85 ∷ 0x7d ∷ 0x77 ∷ 0x81 ∷ 0x1f ∷ 0x35 ∷ 0x2c ∷ 0x07 ∷ 0x3b ∷ 0x61 ∷ 0x08 ∷ 0xd7 ∷ 0x2d ∷ 0x98 ∷ 0x10 ∷ 0xa3 ∷ 0x09 ∷ 0x14 ∷ 0xdf ∷ 0xf4 ∷ [])) ≡ 0x70 ∷ 0x6c ∷ 0x63 ∷ 0x1e ∷ []
unfolding sum_of_shifts inverse_from affine_bits sbox power_of_x expanded key_schedule
key_expansion_256 = refl

abbrev plain_text : List ℕ
plain_text = 0x00 ∷ 0x11 ∷ 0x22 ∷ 0x33 ∷ 0x44 ∷ 0x55 ∷ 0x66 ∷ 0x77 ∷ 0x88 ∷ 0x99 ∷ 0xaa ∷ 0xbb ∷ 0xcc ∷ 0xdd ∷ 0xee ∷ 0xff ∷ []

-- appendix C.1
abbrev key_128 : List ℕ
key_128 = 0x00 ∷ 0x01 ∷ 0x02 ∷ 0x03 ∷ 0x04 ∷ 0x05 ∷ 0x06 ∷ 0x07 ∷ 0x08 ∷ 0x09 ∷ 0x0a ∷ 0x0b ∷ 0x0c ∷ 0x0d ∷ 0x0e ∷ 0x0f ∷ []

abbrev cipher_text_128 : List ℕ
cipher_text_128 = 0x69 ∷ 0xc4 ∷ 0xe0 ∷ 0xd8 ∷ 0x6a ∷ 0x7b ∷ 0x04 ∷ 0x30 ∷ 0xd8 ∷ 0xcd ∷ 0xb7 ∷ 0x80 ∷ 0x70 ∷ 0xb4 ∷ 0xc5 ∷ 0x5a ∷ []

cipher_128 : aes_encrypt key_128 plain_text ≡ cipher_text_128
unfolding sum_of_shifts inverse_from affine_bits sbox rounds power_of_x expanded key_schedule aes_encrypt
cipher_128 = refl

inverse_cipher_128 : aes_decrypt key_128 cipher_text_128 ≡ plain_text
inverse_cipher_128 = ap (aes_decrypt key_128) (sym cipher_128) ∙ (decryption_undoes key_128 (tried_bytes key_128 refl)).undone plain_text (record { long = refl; bytes = tried_bytes plain_text refl })

-- appendix C.2
abbrev key_192 : List ℕ
key_192 = 0x00 ∷ 0x01 ∷ 0x02 ∷ 0x03 ∷ 0x04 ∷ 0x05 ∷ 0x06 ∷ 0x07 ∷ 0x08 ∷ 0x09 ∷ 0x0a ∷ 0x0b ∷ 0x0c ∷ 0x0d ∷ 0x0e ∷ 0x0f ∷ 0x10 ∷ 0x11 ∷ 0x12 ∷ 0x13 ∷ 0x14 ∷ 0x15 ∷ 0x16 ∷ 0x17 ∷ []

abbrev cipher_text_192 : List ℕ
cipher_text_192 = 0xdd ∷ 0xa9 ∷ 0x7c ∷ 0xa4 ∷ 0x86 ∷ 0x4c ∷ 0xdf ∷ 0xe0 ∷ 0x6e ∷ 0xaf ∷ 0x70 ∷ 0xa0 ∷ 0xec ∷ 0x0d ∷ 0x71 ∷ 0x91 ∷ []

cipher_192 : aes_encrypt key_192 plain_text ≡ cipher_text_192
unfolding sum_of_shifts inverse_from affine_bits sbox rounds power_of_x expanded key_schedule aes_encrypt
cipher_192 = refl

inverse_cipher_192 : aes_decrypt key_192 cipher_text_192 ≡ plain_text
inverse_cipher_192 = ap (aes_decrypt key_192) (sym cipher_192) ∙ (decryption_undoes key_192 (tried_bytes key_192 refl)).undone plain_text (record { long = refl; bytes = tried_bytes plain_text refl })

-- appendix C.3
abbrev key_256 : List ℕ
key_256 = 0x00 ∷ 0x01 ∷ 0x02 ∷ 0x03 ∷ 0x04 ∷ 0x05 ∷ 0x06 ∷ 0x07 ∷ 0x08 ∷ 0x09 ∷ 0x0a ∷ 0x0b ∷ 0x0c ∷ 0x0d ∷ 0x0e ∷ 0x0f ∷ 0x10 ∷ 0x11 ∷ 0x12 ∷ 0x13 ∷ 0x14 ∷ 0x15 ∷ 0x16 ∷ 0x17 ∷ 0x18 ∷ 0x19 ∷ 0x1a ∷ 0x1b ∷ 0x1c ∷ 0x1d ∷ 0x1e ∷ 0x1f ∷ []

abbrev cipher_text_256 : List ℕ
cipher_text_256 = 0x8e ∷ 0xa2 ∷ 0xb7 ∷ 0xca ∷ 0x51 ∷ 0x67 ∷ 0x45 ∷ 0xbf ∷ 0xea ∷ 0xfc ∷ 0x49 ∷ 0x90 ∷ 0x4b ∷ 0x49 ∷ 0x60 ∷ 0x89 ∷ []

cipher_256 : aes_encrypt key_256 plain_text ≡ cipher_text_256
unfolding sum_of_shifts inverse_from affine_bits sbox rounds power_of_x expanded key_schedule aes_encrypt
cipher_256 = refl

inverse_cipher_256 : aes_decrypt key_256 cipher_text_256 ≡ plain_text
inverse_cipher_256 = ap (aes_decrypt key_256) (sym cipher_256) ∙ (decryption_undoes key_256 (tried_bytes key_256 refl)).undone plain_text (record { long = refl; bytes = tried_bytes plain_text refl })
