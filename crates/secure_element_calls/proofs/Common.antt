-- What several proofs of this crate cite of its words, and of other crates'.
pub use Rattle.cipher_blocks.proofs.BlockNumbers.{number_of_block}
pub use Rattle.cipher_modes.proofs.CounterBlocks.{counter_block_is, counter_next, key_stream_next}
pub use Rattle.crypto_specs.proofs.{Blocks.length-aes_encrypt, Blocks.length-number_block, XorBytes.length-xor_bytes, XorBytes.xor_bytes_next}
pub use Rattle.crypto_specs.specs.Prelude.{block_count, chain_step, front_count, joined, xor_bytes}
unfoldable pub use Rattle.crypto_specs.specs.Prelude.{aes_encrypt, block_number, blocks, chained, cmac, counter_block, ctr_xor, ecb_encrypt, hmac, key_stream, last_block, number_block}
pub use Rattle.driver_dispatch.specs.{Calls.HoldsHandle, Calls.IsSomeKey, Held.HeldKey, Held.HeldKeys, Held.held_key}
pub use Rattle.psa_status.proofs.Rows.{first_row-back, first_row-front, unless-err, unless-ok}
pub use Rattle.psa_status.specs.{Causes.Rose, Causes.one_more, Rows.Rows, Rows.first_row, Rows.unless, declared.Status.Status, declared.Status.TheVariants.HardwareFailure, declared.Status.TheVariants.InvalidArgument, declared.Status.TheVariants.InvalidSignature, declared.Status.TheVariants.Success}
pub use Rattle.secure_element_calls.specs.{Calls.algorithm_asked, Calls.ctr, Calls.element_reply, Calls.model_call, Calls.needed_by, Calls.rows_before, Given.Compares, Given.agrees_by, Given.given_by, declared.calls.ElementCall.ElementCall}
pub use Rattle.secure_element_calls.specs.declared.calls.ElementCall.TheVariants.{CtrDecrypt, CtrEncrypt, MacCompute, MacVerify}
pub use Rattle.std.proofs.lemmas.List.{append-nil, drop-append-le, drop_all, drop_at, drop_min, length-append, length-drop, length-replicate, length-take, map-append, nil_from_length, take-append-le, take_all, take_min}
pub use Rattle.store_model.specs.Prelude.{Bytes, Computed, Ctr, Key, OnStore, Reply, Service, buffer_after, bytes_of_key, computed_unless, computed_with, deciphered, done, enciphered, encrypted, fits_type, given, is_hmac, is_of_computed, is_opaque_key, mac_of, next_random, plain_or_zeros, plain_step, refusal, replies, reply_unless, spoiled, tag_bytes, total_limit}
pub use Rattle.std.proofs.lemmas.Bool.{cases_eq, eqb-true}
