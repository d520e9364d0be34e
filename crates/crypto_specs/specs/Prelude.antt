-- The words of this crate that others cite, a line or two for each file that says them.
pub use Rattle.crypto_specs.specs.Bytes.{xor_bytes, zero_filled}
pub use Rattle.crypto_specs.specs.Field.{gf_mul, xtime}
unfoldable pub use Rattle.crypto_specs.specs.Field.{inverse_from}
unfoldable pub use Rattle.crypto_specs.specs.Sbox.{affine_bits, inv_affine_bits, inv_sbox, sbox}
pub use Rattle.crypto_specs.specs.KeyExpansion.{add_word, next_word, rot_word, round_count, schedule_core, sub_word, word_at, xor_words}
unfoldable pub use Rattle.crypto_specs.specs.KeyExpansion.{expanded, key_schedule, power_of_x}
pub use Rattle.crypto_specs.specs.Aes.{IsKey, add_round_key, cipher, entry, mix_columns, mixed, shift_rows, state_of, sub_bytes}
unfoldable pub use Rattle.crypto_specs.specs.Aes.{aes_encrypt, rounds}
pub use Rattle.crypto_specs.specs.AesInverse.{inv_cipher, inv_mix_columns, inv_shift_rows, inv_sub_bytes}
unfoldable pub use Rattle.crypto_specs.specs.AesInverse.{aes_decrypt, inv_rounds}
pub use Rattle.crypto_specs.specs.Modes.{block_count, ecb_blocks, joined}
unfoldable pub use Rattle.crypto_specs.specs.Modes.{block_number, blocks, cbc_blocks, cbc_decrypt, cbc_encrypt, cbc_plain_blocks, counter_block, ctr_xor, ecb_decrypt, ecb_encrypt, key_stream, number_block, pkcs7_padded, pkcs7_unpadded}
pub use Rattle.crypto_specs.specs.Cmac.{chain_step, doubled, front_count}
unfoldable pub use Rattle.crypto_specs.specs.Cmac.{chained, cmac, last_block, subkey1, subkey2}
pub use Rattle.crypto_specs.specs.Ccm.{encoded_length, filled_blocks, flags, in_bytes}
unfoldable pub use Rattle.crypto_specs.specs.Ccm.{ccm_counter_block, ccm_stream, ccm_tag, ccm_text, control_block, encoded_data, formatted_blocks}
pub use Rattle.crypto_specs.specs.Ghash.{block_product, reduction}
unfoldable pub use Rattle.crypto_specs.specs.Ghash.{ghash_from, times_x}
pub use Rattle.crypto_specs.specs.Gcm.{length_block}
unfoldable pub use Rattle.crypto_specs.specs.Gcm.{gcm_stream, gcm_tag, gcm_text, ghash_of, hash_subkey, increased, initial_counter_block, numbers_of}
pub use Rattle.crypto_specs.specs.Hmac.{zero_padded, inner_pad, outer_pad, xored_with}
unfoldable pub use Rattle.crypto_specs.specs.Hmac.{hmac, key_block}
pub use Rattle.crypto_specs.specs.Hkdf.{hash_length}
unfoldable pub use Rattle.crypto_specs.specs.Hkdf.{expand, expand_block, expand_blocks, extract}
unfoldable pub use Rattle.crypto_specs.specs.Pbkdf2.{chain, pbkdf2, pbkdf2_block, pbkdf2_blocks, xor_all}
pub use Rattle.crypto_specs.specs.Laws.{AreBytes, IsBlock, IsUndoneBy, KeepsLength}
