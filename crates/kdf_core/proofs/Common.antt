-- What several proofs of this crate cite of its words, and of other crates'.
pub use Rattle.crypto_specs.proofs.XorBytes.{length-xor_bytes, xor_bytes-append, xor_bytes_next}
pub use Rattle.crypto_specs.specs.Prelude.{hash_length, hmac, xor_bytes}
unfoldable pub use Rattle.crypto_specs.specs.Prelude.{chain, expand_block, extract, pbkdf2_block, xor_all}
pub use Rattle.hash_ops.specs.Hashes.{block_length, hash_of}
pub use Rattle.std.proofs.Common.{List, [], add-one, ap, ap₂, arith, drop, length, length-append, refl, replicate, suc, sym, take, zero, ℕ, ◌++◌, ◌+◌, ◌-◌, ◌<◌, ◌∙◌, ◌∷◌, ◌≡◌, ◌≤◌}
pub use Rattle.std.proofs.lemmas.List.{drop-replicate, drop_at, length-drop, length-take, take-append-drop, take_at}
