-- What several proofs of this crate cite of its words, and of other crates'.
pub use Rattle.crypto_specs.specs.Prelude.{hash_length}
unfoldable pub use Rattle.crypto_specs.specs.Prelude.{expand, expand_block, expand_blocks, extract, pbkdf2, pbkdf2_block, pbkdf2_blocks}
pub use Rattle.derivation_states.specs.{Inputs.given_bytes, Inputs.HoldsInputs, Outputs.HoldsOutput, Outputs.HasSecret, Outputs.IsRunning, Streams.block_at, Streams.hmac_key, Streams.work_block_length, Streams.work_hash, declared.inputs.Inputs.Inputs, declared.output.OutputState.OutputState}
pub use Rattle.hash_ops.specs.Hashes.{block_length, digest_length, hash_of}
pub use Rattle.key_policy.specs.{Names.NamesDerivation, declared.algorithms.KeyDerivation.KeyDerivation}
pub use Rattle.std.proofs.{lemmas.Bool.and_parts, lemmas.Bool.cases_Bool, lemmas.Bool.cond-false, lemmas.Bool.cond-true, lemmas.Bool.eqb-true, lemmas.Bool.not-false, lemmas.Bool.not-true, Math.Nat.div-mul-le_self, Math.Nat.mul-suc}
pub use Rattle.std.proofs.lemmas.List.{append-nil, drop-append-le, drop-take, get_or-take, length-append, length-drop, length-take, nil_from_length, take-append-drop, take-append-le, take-take, take_at, take_min, take_more, take_more_set}
pub use Rattle.store_model.specs.{DerivationOperations.is_info_due, DerivationOperations.number_or_zero, Prelude.bytes_or_empty, Prelude.DerivationWork, Prelude.derived, Prelude.info_step, Prelude.input_bytes_rows, Prelude.is_due, Prelude.is_hkdf, Prelude.is_salt_due, Prelude.is_secret_due, Prelude.next_derived, Prelude.salt_step, Prelude.without}
pub use Rattle.std.specs.Option.{ForSome, option_map}
