-- What several proofs of this crate cite of its words, and of other crates'.
pub use Rattle.aead_ccm.specs.Chaining.{chained_from, filled_block}
unfoldable pub use Rattle.aead_ccm.specs.Counting.{masks}
pub use Rattle.cipher_blocks.proofs.BlockNumbers.{block_of_xor, byte_at_is, power_of_256}
pub use Rattle.crypto_specs.proofs.XorBytes.{blocks_xored, length-xor_bytes, next_block_xored, xor_bytes-append, xor_bytes_to_end}
pub use Rattle.crypto_specs.specs.Prelude.{block_count, chain_step, encoded_length, filled_blocks, in_bytes, xor_bytes, zero_filled}
unfoldable pub use Rattle.crypto_specs.specs.Prelude.{aes_encrypt, blocks, ccm_counter_block, ccm_stream, ccm_tag, ccm_text, chained, control_block, encoded_data, formatted_blocks, number_block}
pub use Rattle.std.proofs.Common.{IsTrue, List, [], add-one, ap, ap₂, arith, bit_xor, drop, eqb, false, inl, inr, length, min, refl, replicate, slice_set, suc, sym, take, true, zero, ℕ, ◌%◌, ◌*◌, ◌++◌, ◌+◌, ◌-◌, ◌/◌, ◌<◌, ◌^◌, ◌↔◌, ◌∙◌, ◌∷◌, ◌≡◌, ◌≤◌}
pub use Rattle.std.proofs.{Math.Nat.div-eq_of_lt, Math.Nat.lt-div-mul-add, Math.Nat.pow-le-pow_right, lemmas.Bool.cases_lt, lemmas.Bool.eq-eqb, lemmas.Bool.eqb-true, lemmas.Bool.le-ltb, lemmas.Bool.lt-ltb, lemmas.Bool.ne_eqb}
pub use Rattle.std.proofs.lemmas.List.{append-nil, append_assoc, drop-append-le, drop-drop, drop-replicate, drop_at, drop_min, length-append, length-drop, length-replicate, length-take, take-append-drop, take-append-le, take_all, take_min}
pub use Rattle.std.specs.{Int.byte_at, Int.bytes_high_first, Int.to_be_bytes, Int.w128, Int.w16, Int.w32, Int.w64, Int.Bits.xor_zero_l, Int.Bits.xor_zero_r}
