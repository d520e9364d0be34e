-- What several proofs of this crate cite of its words, and of other crates'.
unfoldable pub use Rattle.crypto_specs.specs.Ghash.{sum_of_multiples}
pub use Rattle.crypto_specs.specs.Prelude.{reduction}
unfoldable pub use Rattle.crypto_specs.specs.Prelude.{times_x}
pub use Rattle.ghash.specs.{Products.joined_halves, Products.times_x4, declared.groups.TheConstants.REDUCTIONS}
unfoldable pub use Rattle.ghash.specs.Products.{products_of, shifted}
pub use Rattle.std.proofs.Common.{Bool, List, [], ap, ap₂, arith, bit_xor, cond, eqb, false, map, refl, slice_index, suc, sym, true, zero, ℕ, ◌%◌, ◌*◌, ◌+◌, ◌-◌, ◌/◌, ◌<◌, ◌^◌, ◌∙◌, ◌∷◌, ◌≡◌}
pub use Rattle.std.proofs.lemmas.Nat.{shr-shr, xor_block, xor_comm}
pub use Rattle.std.specs.{Int.bit_at, Int.Bits.xor_assoc, Int.Bits.xor_shifted, Int.Bits.xor_zero_r}
