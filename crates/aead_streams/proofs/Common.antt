-- What several proofs of this crate cite of its words, and of other crates'.
pub use Rattle.aead_ccm.specs.Chaining.{chained_from, filled_block}
pub use Rattle.aead_gcm.proofs.GhashSteps.{in_turn, rest_from}
pub use Rattle.aead_streams.specs.{CcmStates.CountsFor, CcmStates.chain_start, Chains.chain_after, Chains.data_front, Counters.counter_at, Streams.IsAt, TextHashes.HasTaken, declared.counter_width.CounterWidth.CounterWidth, declared.counter_width.CounterWidth.TheVariants.Low32, declared.counter_width.CounterWidth.TheVariants.Whole, declared.key_stream.KeyStream.KeyStream}
unfoldable pub use Rattle.aead_streams.specs.Counters.{byte_of_stream, stream_block, text_xor}
pub use Rattle.cipher_blocks.proofs.BlockNumbers.{AreBytes, block_of_number, block_of_xor, byte_at_is, bytes-append, length-bytes_high_first, power_of_256, power_positive}
pub use Rattle.crypto_specs.proofs.Blocks.{blocks-append, length-aes_encrypt, length-number_block, number_of_filled}
pub use Rattle.crypto_specs.specs.Prelude.{KeepsLength, block_count, block_product, chain_step, encoded_length, filled_blocks, in_bytes, length_block, xor_bytes}
unfoldable pub use Rattle.crypto_specs.specs.Prelude.{aes_encrypt, block_number, blocks, ccm_counter_block, ccm_stream, ccm_tag, ccm_text, chained, control_block, counter_block, ctr_xor, encoded_data, formatted_blocks, gcm_stream, gcm_tag, gcm_text, ghash_from, ghash_of, hash_subkey, increased, initial_counter_block, key_stream, number_block, numbers_of}
pub use Rattle.std.proofs.Common.{List, [], ap, ap₂, arith, bit_xor, drop, inl, inr, length, map, min, refl, replicate, rules, slice_index, subst, suc, sym, take, take-add, zero, ℕ, ◌%◌, ◌*◌, ◌++◌, ◌+◌, ◌-◌, ◌/◌, ◌<◌, ◌^◌, ◌∙◌, ◌∷◌, ◌≡◌, ◌≤◌, ◌⊎◌}
pub use Rattle.std.proofs.{Math.Nat.div-div-eq-div-mul, Math.Nat.mod-eq_of_lt, Math.Nat.mul_comm, Math.Nat.pow-le-pow_right, Math.Nat.pow-suc, lemmas.Bool.cases_lt, lemmas.Bool.false≢true, lemmas.Nat.div-add-mod', lemmas.Nat.div-mul-add, lemmas.Nat.mod-mul-add, lemmas.Nat.mod_below, lemmas.Nat.pow-add, lemmas.Nat.same_from_place}
pub use Rattle.std.proofs.lemmas.List.{append-nil, append_assoc, drop-append-le, drop-drop, drop-replicate, drop_all, drop_at, get_or-append_right, get_or-drop, get_or_append_left, length-append, length-drop, length-replicate, length-take, take-append-drop, take_all, take_at}
pub use Rattle.std.specs.Int.{byte_at, bytes_high_first}
