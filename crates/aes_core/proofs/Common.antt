-- What several proofs of this crate cite of its words, and of other crates'.
pub use Rattle.aes_core.specs.{KeyFields.IsInvScheduleOf, KeyFields.IsReadyOrWiped, KeyFields.IsScheduleOf, KeyFields.key_of, Words.word_bytes, Words.inv_mixed_word, Words.mixed_column, Words.products, declared.inv_mixed_tables.TheConstants.INV_MIXED_ROWS, declared.inv_word_tables.TheConstants.INV_WORD_ROWS, declared.mixed_tables.TheConstants.MIXED_ROWS, declared.tables.TheConstants.INV_SBOX, declared.tables.TheConstants.SBOX}
pub use Rattle.crypto_specs.proofs.{CipherInverseBytes.inv_sbox-byte, CipherInverseBytes.inv_sbox_of_sbox, CipherInverseBytes.sbox-byte, FieldLaws.gf_mul-byte, FieldLaws.gf_mul-xor, FieldLaws.xor_four, Tables.holds_values, Tables.value_of}
unfoldable pub use Rattle.crypto_specs.specs.Field.{sum_of_shifts}
pub use Rattle.crypto_specs.specs.Prelude.{IsKey, add_round_key, add_word, cipher, entry, gf_mul, inv_cipher, inv_mix_columns, inv_shift_rows, inv_sub_bytes, mix_columns, mixed, next_word, rot_word, round_count, schedule_core, shift_rows, state_of, sub_bytes, sub_word, word_at, xor_words, xtime}
unfoldable pub use Rattle.crypto_specs.specs.Prelude.{aes_decrypt, aes_encrypt, affine_bits, expanded, inv_affine_bits, inv_rounds, inv_sbox, inverse_from, key_schedule, number_block, power_of_x, rounds, sbox}
pub use Rattle.std.proofs.Common.{IsTrue, List, [], ap, ap₂, arith, bit_xor, get_or, inl, inr, length, length-append, nat_lt, refl, set, slice_index, suc, sym, take, take-take, true, zero, ℕ, ◌%◌, ◌&&◌, ◌*◌, ◌++◌, ◌+◌, ◌-◌, ◌/◌, ◌<◌, ◌^◌, ◌∙◌, ◌∷◌, ◌≡◌, ◌≤◌, ◌⊎◌}
pub use Rattle.std.proofs.{Math.Seq.take-length, lemmas.Bool.cases_eq, lemmas.Bool.eq-eqb, lemmas.List.get_or-set_other, lemmas.List.get_or-set_same, lemmas.List.get_or-take, lemmas.List.length-set, lemmas.List.take-append-le, lemmas.List.take_more_set, lemmas.Nat.be_bytes_4, lemmas.Nat.div_below, lemmas.Nat.xor_comm}
pub use Rattle.std.specs.{Int.byte_at, Int.Bits.xor_assoc, Int.Bits.xor_block, Int.Bits.xor_zero_r}
