-- What several proofs of this crate cite of its words, and of other crates'.
pub use Rattle.crypto_specs.proofs.{Blocks.length-number_block, Blocks.number_of_filled, XorBytes.length-xor_bytes, XorBytes.xor_bytes-append, XorBytes.xor_bytes_next}
pub use Rattle.crypto_specs.specs.Prelude.{xor_bytes}
unfoldable pub use Rattle.crypto_specs.specs.Prelude.{block_number, number_block}
pub use Rattle.std.proofs.Common.{Bool, IsTrue, List, [], add-one, ap, ap₂, arith, bit_xor, drop, eqb, length, refl, replicate, slice_index, suc, sym, take, zero, ℕ, ◌%◌, ◌*◌, ◌++◌, ◌+◌, ◌-◌, ◌/◌, ◌<◌, ◌^◌, ◌↔◌, ◌∙◌, ◌∷◌, ◌≡◌, ◌≤◌}
pub use Rattle.std.proofs.lemmas.List.{append-nil, drop-replicate, drop_all, drop_at, get_or-drop, length-append, length-drop, length-replicate, length-take, take-append-drop, take_all, take_at}
pub use Rattle.std.proofs.lemmas.Nat.{be_bytes_8, div-mul-add, mod-mul-add, mul-add-lt, pow-add, shr-shr, xor_mod, xor_shr}
pub use Rattle.std.specs.Int.{byte_at, bytes_high_first, from_be_bytes, to_be_bytes, w64}
