-- What several proofs of this crate cite of its words, and of other crates'.
pub use Rattle.crypto_specs.specs.Prelude.{zero_padded, inner_pad, outer_pad, xored_with}
unfoldable pub use Rattle.crypto_specs.specs.Prelude.{hmac, key_block}
pub use Rattle.hash_ops.proofs.Digests.{length-hash_of, length_bounds}
pub use Rattle.hash_ops.specs.Hashes.{block_length, digest_length, hash_of}
pub use Rattle.sha2.specs.Sha256.{add_state, ch, initial_hash_256, maj, next_word, padded_message, padding, round, round_constants, word_at}
unfoldable pub use Rattle.sha2.specs.Sha256.{compress, digest_bytes, first_words, hash_after, rounds, schedule, sha256}
pub use Rattle.std.proofs.Common.{Bool, List, [], add-one, add-zero, ap, append_assoc, ap₂, arith, bit_and, bit_or, bit_xor, cond, drop, false, inl, inr, length, length-append, max, min, mod-lt, nat_lt, pow_pos, refl, replicate, rules, slice_index, slice_set, subst, suc, sym, take, true, ℕ, ◌%◌, ◌*◌, ◌++◌, ◌+◌, ◌-◌, ◌/◌, ◌<◌, ◌^◌, ◌∙◌, ◌∷◌, ◌≡◌, ◌≤◌}
pub use Rattle.std.proofs.{lemmas.Bool.cases_lt, lemmas.Bool.le-ltb, lemmas.Bool.lt-ltb, lemmas.List.drop_at, lemmas.List.get_or-take, lemmas.List.length-map, lemmas.List.length-replicate, lemmas.List.take-map, lemmas.List.take-replicate, lemmas.List.take_all, lemmas.List.take_at, lemmas.List.take_more_set}
pub use Rattle.std.proofs.lemmas.Nat.{and_le_l, and_le_r, or_lt, shr_le, shr_split, xor_lt}
pub use Rattle.std.proofs.lemmas.Nat.Bits.{bit_at-lt, bit_at-zero, bit_at_above, bit_at_and, bit_at_cat_high, bit_at_cat_low, bit_at_not, bit_at_or, bit_at_xor, same_from_bits, same_from_bits_below}
pub use Rattle.std.specs.Int.{bit_at, bit_not, w32}
