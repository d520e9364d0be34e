-- What several proofs of this crate cite of its words, and of other crates'.
pub use Rattle.cipher_blocks.proofs.BlockNumbers.{block_of_xor, number_of_block}
pub use Rattle.cmac_ops.specs.Chains.{ChainHolds, IsChained}
pub use Rattle.crypto_specs.specs.Prelude.{aes_encrypt, block_number, chain_step, doubled, front_count, xor_bytes}
unfoldable pub use Rattle.crypto_specs.specs.Prelude.{blocks, chained, cmac, last_block, number_block, subkey1, subkey2}
pub use Rattle.std.proofs.Common.{Bool, List, [], ap, append_assoc, ap₂, arith, bit_xor, cond, drop, inl, inr, length, refl, replicate, subst, suc, sym, take, zero, ℕ, ◌*◌, ◌++◌, ◌+◌, ◌-◌, ◌<◌, ◌^◌, ◌∙◌, ◌∷◌, ◌≡◌, ◌≤◌}
pub use Rattle.std.proofs.lemmas.List.{drop-append-le, drop-drop, drop_all, length-append, length-drop, length-take, take_all}
