-- What several proofs of this crate cite of its words, and of other crates'.
pub use Rattle.aead_streams.proofs.StreamLaws.{length-text_xor, text_xor-append}
unfoldable pub use Rattle.aead_streams.specs.Counters.{text_xor}
pub use Rattle.aead_streams.specs.{Streams.IsAt, declared.counter_width.CounterWidth.TheVariants.Whole}
pub use Rattle.cipher_states.specs.{Modes.due_bytes, Modes.is_stream, Modes.keeps_last, States.HoldsCipher, States.RunsMode, States.due_now, Texts.HoldsBlockText, Texts.RunsBlocks, Ways.chains, Ways.last_ciphertext_block, Ways.next_chain, Ways.processed, Ways.way_of, declared.running.RunningCipher.RunningCipher, declared.ways.Way.Way, declared.block_text.BlockText.BlockText}
pub use Rattle.cipher_states.specs.declared.ways.Way.TheVariants.{CbcDecrypt, CbcEncrypt, EcbDecrypt, EcbEncrypt}
pub use Rattle.crypto_specs.specs.Prelude.{joined, xor_bytes}
unfoldable pub use Rattle.crypto_specs.specs.Prelude.{aes_decrypt, aes_encrypt, block_number, blocks, cbc_blocks, cbc_decrypt, cbc_encrypt, cbc_plain_blocks, ctr_xor, ecb_decrypt, ecb_encrypt, pkcs7_padded, pkcs7_unpadded}
pub use Rattle.key_policy.specs.Modes.{model_mode}
pub use Rattle.psa_status.specs.{Rows.first_row, Rows.unless, declared.Status.TheVariants.BufferTooSmall, declared.Status.TheVariants.InvalidPadding, declared.Status.TheVariants.Success}
pub use Rattle.service_calls.specs.Answers.{AnswersOrSpoils, GivesBytes}
pub use Rattle.std.proofs.Common.{Bool, Err, List, MatchBool, None, Option, Result, Some, [], ap, append-nil, append_assoc, ap₂, arith, cond, drop, false, if◌then◌else◌, inl, inr, is_ok, is_some, length, length-append, map, nat_lt, not, option_map, refl, replicate, rules, subst, suc, sym, take, true, zero, ℕ, ◌%◌, ◌&&◌, ◌*◌, ◌++◌, ◌+◌, ◌-◌, ◌/◌, ◌<◌, ◌==◌, ◌||◌, ◌∙◌, ◌∷◌, ◌≡◌, ◌≤◌}
pub use Rattle.std.proofs.lemmas.List.{drop-append-le, drop-drop, drop_all, drop_at, length-drop, length-take, length-take-le, map-append, take-append-drop, take-append-le, take-take, take_all, take_at}
pub use Rattle.store_model.specs.Prelude.{Active, After, Bytes, CbcNoPadding, CbcPkcs7, CipherWork, Ctr, EcbNoPadding, InError, Inactive, Mode, Operation, Reply, buffer_after, buffer_bytes, bytes_or_empty, cipher_due, cipher_finish_rows, cipher_fresh, cipher_step, cipher_update_rows, cipher_work, deciphered, due_deciphered, due_enciphered, enciphered, ends, given, is_ciphertext_length, is_whole_text, iv_length, last_length, last_part, mode_of, plain_or_zeros, room_rows, spoiled, takes_text, takes_whole_blocks, total_limit, unless_failed, whole_text, with_iv, with_text}
pub use Rattle.std.proofs.lemmas.Bool.{and_parts, cases_Bool, cond-false, cond-true, eqb-false, eqb-true, le-ltb, lt-ltb, MatchBool-at_false, MatchBool-at_true, not-true}
