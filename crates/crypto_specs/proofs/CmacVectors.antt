-- CMAC: the examples of SP 800-38B, appendix D.1, for AES-128.
use Rattle.std.proofs.Common.{List, [], ap, refl, take, ℕ, ◌∙◌, ◌∷◌, ◌≡◌}
use Rattle.crypto_specs.proofs.{Common.aes_encrypt, Common.block_number, Common.blocks, Common.chained, Common.cmac, Common.last_block, Common.number_block, Common.power_of_x, Common.subkey1, Common.subkey2, Common.sum_of_shifts, TableAes.by_table, TableAes.rounds_by, TableAes.expanded_by, TableAes.schedule_by, TableAes.encrypt_by, TableAes.table_encrypt, TableAes.encrypts_by_table}

abbrev key : List ℕ
key = 0x2b ∷ 0x7e ∷ 0x15 ∷ 0x16 ∷ 0x28 ∷ 0xae ∷ 0xd2 ∷ 0xa6 ∷ 0xab ∷ 0xf7 ∷ 0x15 ∷ 0x88 ∷ 0x09 ∷ 0xcf ∷ 0x4f ∷ 0x3c ∷ []

abbrev message : List ℕ
message = 0x6b ∷ 0xc1 ∷ 0xbe ∷ 0xe2 ∷ 0x2e ∷ 0x40 ∷ 0x9f ∷ 0x96 ∷ 0xe9 ∷ 0x3d ∷ 0x7e ∷ 0x11 ∷ 0x73 ∷ 0x93 ∷ 0x17 ∷ 0x2a ∷ 0xae ∷ 0x2d ∷ 0x8a ∷ 0x57 ∷ 0x1e ∷ 0x03 ∷ 0xac ∷ 0x9c ∷ 0x9e ∷ 0xb7 ∷ 0x6f ∷ 0xac ∷ 0x45 ∷ 0xaf ∷ 0x8e ∷ 0x51 ∷ 0x30 ∷ 0xc8 ∷ 0x1c ∷ 0x46 ∷ 0xa3 ∷ 0x5c ∷ 0xe4 ∷ 0x11 ∷ []

-- example 1
empty_message : cmac (aes_encrypt key) [] ≡ 0xbb ∷ 0x1d ∷ 0x69 ∷ 0x29 ∷ 0xe9 ∷ 0x59 ∷ 0x37 ∷ 0x28 ∷ 0x7f ∷ 0xa3 ∷ 0x7d ∷ 0x12 ∷ 0x9b ∷ 0x75 ∷ 0x67 ∷ 0x46 ∷ []
unfolding sum_of_shifts power_of_x by_table rounds_by expanded_by schedule_by encrypt_by table_encrypt blocks block_number number_block subkey1 subkey2 last_block chained cmac
empty_message = ap (λ (e : List ℕ → List ℕ). cmac e []) (encrypts_by_table key) ∙ refl

-- example 2
whole_block : cmac (aes_encrypt key) (take 16 message) ≡ 0x07 ∷ 0x0a ∷ 0x16 ∷ 0xb4 ∷ 0x6b ∷ 0x4d ∷ 0x41 ∷ 0x44 ∷ 0xf7 ∷ 0x9b ∷ 0xdd ∷ 0x9d ∷ 0xd0 ∷ 0x4a ∷ 0x28 ∷ 0x7c ∷ []
unfolding sum_of_shifts power_of_x by_table rounds_by expanded_by schedule_by encrypt_by table_encrypt blocks block_number number_block subkey1 subkey2 last_block chained cmac
whole_block = ap (λ (e : List ℕ → List ℕ). cmac e (take 16 message)) (encrypts_by_table key) ∙ refl

-- example 3, of 40 bytes
part_of_a_block : cmac (aes_encrypt key) message ≡ 0xdf ∷ 0xa6 ∷ 0x67 ∷ 0x47 ∷ 0xde ∷ 0x9a ∷ 0xe6 ∷ 0x30 ∷ 0x30 ∷ 0xca ∷ 0x32 ∷ 0x61 ∷ 0x14 ∷ 0x97 ∷ 0xc8 ∷ 0x27 ∷ []
unfolding sum_of_shifts power_of_x by_table rounds_by expanded_by schedule_by encrypt_by table_encrypt blocks block_number number_block subkey1 subkey2 last_block chained cmac
part_of_a_block = ap (λ (e : List ℕ → List ℕ). cmac e message) (encrypts_by_table key) ∙ refl
