-- What several proofs of this crate cite of its words, and of other crates'.
pub use Rattle.cipher_blocks.proofs.BlockNumbers.{block_of_xor}
pub use Rattle.crypto_specs.proofs.Blocks.{length-aes_encrypt, length-number_block}
pub use Rattle.crypto_specs.specs.Prelude.{aes_decrypt, aes_encrypt, block_number, ecb_blocks, joined, number_block, xor_bytes}
unfoldable pub use Rattle.crypto_specs.specs.Prelude.{blocks, cbc_blocks, cbc_decrypt, cbc_encrypt, cbc_plain_blocks, counter_block, ctr_xor, ecb_decrypt, ecb_encrypt, key_stream, pkcs7_padded, pkcs7_unpadded}
pub use Rattle.std.proofs.Common.{Bool, List, None, Option, Some, [], add-one, ap, append_assoc, ap₂, arith, bytes_eq, cond, drop, false, inl, inr, length, map, nat_le, refl, replicate, slice_index, suc, sym, take, true, ℕ, ◌%◌, ◌&&◌, ◌*◌, ◌++◌, ◌+◌, ◌-◌, ◌/◌, ◌<◌, ◌^◌, ◌∙◌, ◌∷◌, ◌≡◌, ◌≤◌, ◌⊎◌}
pub use Rattle.std.proofs.{lemmas.Bool.cases_lt, lemmas.Bool.le-leb, lemmas.Bool.leb-true, lemmas.Bool.lt-leb, lemmas.List.append-nil, lemmas.List.drop-drop, lemmas.List.drop_all, lemmas.List.drop_at, lemmas.List.get_or-append-add, lemmas.List.get_or_at, lemmas.List.length-append, lemmas.List.length-drop, lemmas.List.length-take, lemmas.List.take-append-drop, lemmas.List.take_all}
