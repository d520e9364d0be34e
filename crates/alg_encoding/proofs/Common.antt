-- What several proofs of this crate cite of its words, and of other crates'.
pub use Rattle.alg_encoding.specs.{Encoding.has_flag, Encoding.if_permitted, Encoding.length_bits, Encoding.lengths_of, Encoding.named_hash_byte, Encoding.tagged_or, Encoding.without_tag, Table.has_length, Table.named_hash_length, Table.longest_tag, Table.permits_length, Table.stated_length, Table.table, declared.table.Base.Base, declared.table.Lengths.Lengths}
unfoldable pub use Rattle.alg_encoding.specs.Encoding.{base_of, entry_of, hash_byte_of, is_concrete, is_wildcard, minimum_of, tag_length_of}
unfoldable pub use Rattle.alg_encoding.specs.Table.{base_at}
pub use Rattle.alg_encoding.specs.declared.table.Lengths.TheVariants.{Ccm, Gcm, NoLength, UpTo}
pub use Rattle.std.proofs.Common.{Bool, List, None, Option, Some, [], ap, arith, cond, eqb, false, inl, inr, is_some, leb, not, refl, subst, sym, true, ℕ, ◌%◌, ◌&&◌, ◌*◌, ◌+◌, ◌/◌, ◌<◌, ◌^◌, ◌||◌, ◌∙◌, ◌∷◌, ◌≡◌, ◌≤◌}
pub use Rattle.std.proofs.{lemmas.Bool.and_parts, lemmas.Bool.both_ways, lemmas.Bool.cases_lt, lemmas.Bool.eqb-true, lemmas.Bool.leb-true, lemmas.Bool.ne_eqb, lemmas.Bool.or_cases, lemmas.Nat.and-not, lemmas.Nat.and_comm, lemmas.Nat.and_mask}
pub use Rattle.std.specs.{List.list_all, List.list_any, Option.option_map, Option.option_map_or}
