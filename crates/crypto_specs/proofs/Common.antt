-- What several proofs of this crate cite of its words, and of other crates'.
pub use Rattle.crypto_specs.specs.{Aes.add_round_key, Aes.cipher, Aes.entry, Aes.mix_columns, Aes.mixed, Aes.mixed_with, Aes.shift_rows, Aes.state_of, Aes.sub_bytes, AesInverse.inv_cipher, AesInverse.inv_mix_columns, AesInverse.inv_shift_rows, AesInverse.inv_sub_bytes, Bytes.xor_bytes, Ccm.encoded_length, Field.gf_inverse, Field.gf_mul, Field.xtime, Ghash.block_product, Ghash.reduction}
unfoldable pub use Rattle.crypto_specs.specs.Aes.{aes_encrypt, rounds}
unfoldable pub use Rattle.crypto_specs.specs.AesInverse.{aes_decrypt, inv_rounds}
unfoldable pub use Rattle.crypto_specs.specs.Ccm.{ccm_counter_block, ccm_stream, ccm_tag, ccm_text, control_block, encoded_data, formatted_blocks}
unfoldable pub use Rattle.crypto_specs.specs.Cmac.{chained, cmac, last_block, subkey1, subkey2}
unfoldable pub use Rattle.crypto_specs.specs.Field.{inverse_from, sum_of_shifts}
unfoldable pub use Rattle.crypto_specs.specs.Gcm.{gcm_stream, gcm_tag, gcm_text, ghash_of, hash_subkey, increased, initial_counter_block, numbers_of}
unfoldable pub use Rattle.crypto_specs.specs.Ghash.{ghash_from, times_x}
pub use Rattle.crypto_specs.specs.{Hkdf.hash_length, Hmac.zero_padded, Hmac.xored_with, KeyExpansion.key_words, KeyExpansion.next_word, KeyExpansion.rot_word, KeyExpansion.round_constant, KeyExpansion.round_count, KeyExpansion.schedule_core, KeyExpansion.sub_word, KeyExpansion.word_at, KeyExpansion.xor_words, Modes.block_count, Modes.ctr_pieces, Modes.joined, Sbox.affine_bit, Sbox.inv_affine_bit}
unfoldable pub use Rattle.crypto_specs.specs.Hkdf.{expand, expand_block, expand_blocks, extract}
unfoldable pub use Rattle.crypto_specs.specs.Hmac.{hmac, key_block}
unfoldable pub use Rattle.crypto_specs.specs.KeyExpansion.{expanded, key_schedule, power_of_x}
pub use Rattle.crypto_specs.specs.Laws.{AbsentSaltIsEmptyKey, AnyCuttingIsTheSame, AreBytes, CbcDecryptionUndoesEncryption, CcmTextUndoesItself, CtrUndoesItself, EcbDecryptionUndoesEncryption, GcmTextUndoesItself, IsBlock, IsUndoneBy, KeepsLength, OnlyPaddedTextsUnpad, PaddingFillsBlocks, UnpaddingUndoesPadding}
unfoldable pub use Rattle.crypto_specs.specs.Modes.{block_number, blocks, cbc_blocks, cbc_decrypt, cbc_encrypt, cbc_plain_blocks, counter_block, ctr_xor, ecb_decrypt, ecb_encrypt, key_stream, number_block, pkcs7_padded, pkcs7_unpadded, stream_byte, xor_stream}
unfoldable pub use Rattle.crypto_specs.specs.Pbkdf2.{chain, pbkdf2, pbkdf2_block, pbkdf2_blocks, xor_all}
unfoldable pub use Rattle.crypto_specs.specs.Sbox.{affine_bits, inv_affine_bits, inv_sbox, sbox}
unfoldable pub use Rattle.sha2.specs.Sha256.{sha256}
pub use Rattle.std.proofs.{lemmas.Bool.and_from, lemmas.Bool.and_parts, lemmas.Bool.cases_eq, lemmas.Bool.cases_lt, lemmas.Bool.eqb-true, lemmas.Bool.le-leb, lemmas.Bool.le-ltb, lemmas.Bool.leb-true, lemmas.Bool.lt-ltb, lemmas.Bool.ltb-true, lemmas.Nat.xor_comm, lemmas.Nat.xor_lt, lemmas.Nat.xor_mod, lemmas.Nat.xor_shr, lemmas.Slice.Eq.bytes_eq-Decides, lemmas.Slice.Eq.slice_eq-Decides}
pub use Rattle.std.proofs.lemmas.List.{append-nil, drop-append-le, drop-drop, drop_all, drop_at, drop_min, get_or-append_right, get_or-drop, get_or-replicate, get_or-take, get_or_append_left, get_or_default, get_or_past, length-append, length-drop, length-replicate, length-take, length_push, replicate-append-replicate, take-append-drop, take-append-le, take_all, take_at, take_min}
pub use Rattle.std.specs.{Int.bit_at, Int.to_be_bytes, Int.w32, Int.w64, Int.Bits.xor_assoc, Int.Bits.xor_block, Int.Bits.xor_self, Int.Bits.xor_zero_r, List.fold, List.list_all}
