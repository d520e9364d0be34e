-- What several proofs of this crate cite of its words, and of other crates'.
pub use Rattle.cipher_blocks.proofs.BlockNumbers.{block_of_xor, number_of_block}
pub use Rattle.crypto_specs.specs.Prelude.{aes_encrypt, block_count, block_number, block_product, length_block, number_block, xor_bytes}
unfoldable pub use Rattle.crypto_specs.specs.Prelude.{blocks, gcm_stream, gcm_tag, gcm_text, ghash_from, ghash_of, hash_subkey, increased, initial_counter_block, numbers_of}
pub use Rattle.std.proofs.Common.{List, [], add-one, ap, ap₂, arith, bit_xor, drop, false, length, map, min, refl, suc, sym, take, true, zero, ℕ, ◌%◌, ◌*◌, ◌++◌, ◌+◌, ◌-◌, ◌/◌, ◌<◌, ◌^◌, ◌∙◌, ◌∷◌, ◌≡◌}
pub use Rattle.std.proofs.lemmas.List.{drop-drop, length-append, length-drop, take_min}
