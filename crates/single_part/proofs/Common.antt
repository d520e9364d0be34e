-- What several proofs of this crate cite of its words, and of other crates'.
pub use Rattle.alg_encoding.specs.{declared.table.Class.Class, declared.table.Class.TheVariants.Cipher, declared.table.Class.TheVariants.Mac}
unfoldable pub use Rattle.crypto_specs.specs.Prelude.{pkcs7_padded, pkcs7_unpadded}
pub use Rattle.key_policy.specs.{Modes.model_mode, Permissions.export_refusal, Permissions.IsKeyFor}
pub use Rattle.psa_status.proofs.Rows.{first_row-back, first_row-front, unless-err, unless-ok}
pub use Rattle.psa_status.specs.{Rows.first_row, Rows.unless, declared.Status.Status, declared.Status.TheVariants.NotPermitted, declared.Status.TheVariants.NotSupported, declared.Status.TheVariants.Success}
pub use Rattle.random_streams.specs.RandomWords.{RandomStream, drawn_from, next_bytes, words_used}
pub use Rattle.service_calls.specs.{Answers.AnswersLength, Answers.AnswersOrSpoils, declared.store_calls.HashCall.TheVariants.Compare, declared.store_calls.HashCall.TheVariants.Compute, declared.store_calls.KeyedCall.KeyedCall}
pub use Rattle.service_calls.specs.declared.store_calls.KeyedCall.TheVariants.{AeadDecrypt, AeadEncrypt, CipherDecrypt, CipherEncrypt, Export, MacCompute, MacVerify}
pub use Rattle.single_part.specs.{Keyed.algorithm_in, Keyed.computed_by, Keyed.exported_reply, Keyed.wanted_by, Laws.DrawsAVector, Laws.DrawsOnSuccess, Laws.HashCallsAreTheModels, Laws.HashCallsRead, Laws.KeyedCallsAreTheModels, Laws.KeyedCallsRead}
pub use Rattle.std.proofs.{Math.Seq.take-append-add, Math.Seq.take-append_seam, lemmas.Result.err_from_is_err_and, lemmas.List.append-nil, lemmas.List.drop_all, lemmas.List.length-append, lemmas.List.length-drop, lemmas.List.length-take, lemmas.List.take-append-drop, lemmas.List.take-take}
pub use Rattle.std.specs.Result.{result_err}
pub use Rattle.store_model.specs.Prelude.{buffer_after, buffer_bytes, bytes_of_key, CbcNoPadding, CbcPkcs7, cipher_usage, class_rows, Computed, computed_unless, Ctr, deciphered, decrypt_rows, decrypted_reply, EcbNoPadding, enciphered, enciphered_length, encrypt_rows, encrypted, export_reply, given, is_ctr, is_opaque, is_opaque_key, iv_length, Key, mac_usage, Mode, mode_of, plain_or_zeros, Random, refusal, replies, Reply, reply_unless, room_rows, Store, use_rows, verified_reply, with_computed}
