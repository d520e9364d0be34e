-- What several proofs of this crate cite of its words, and of other crates'.
pub use Rattle.alg_encoding.specs.{Encoding.IsConcrete, Encoding.lengths_of, declared.table.Class.Class}
unfoldable pub use Rattle.alg_encoding.specs.Encoding.{base_of, class_of, entry_of, is_concrete, tag_length_of}
pub use Rattle.key_policy.specs.{Parse.algorithm_at, Parse.class_in, Parse.is_hmac_in, Permissions.derivation_refusal, Permissions.export_refusal, Permissions.pattern_refusal}
unfoldable pub use Rattle.key_policy.specs.Parse.{algorithm_of}
pub use Rattle.psa_status.specs.{Rows.first_row, Rows.unless, declared.Status.Status, declared.Status.TheVariants.InvalidArgument, declared.Status.TheVariants.InvalidHandle, declared.Status.TheVariants.NotPermitted, declared.Status.TheVariants.NotSupported}
pub use Rattle.store_model.specs.Prelude.{Key, class_number, class_rows, cmac_base, derivation_key_rows, digest, export_rows, fits_type, hash_block_length, is_hmac, is_opaque, low_byte, mode_of, room_rows, use_rows, whole_mac}
