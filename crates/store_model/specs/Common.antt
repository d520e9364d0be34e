-- What several definitions of this crate cite of other crates' words, and of its own.
pub use Rattle.alg_encoding.specs.{Encoding.base_of, Encoding.class_of, Encoding.is_concrete, declared.table.Class.Class, declared.table.Class.TheVariants.Aead, declared.table.Class.TheVariants.Cipher, declared.table.Class.TheVariants.Hash, declared.table.Class.TheVariants.Mac}
pub use Rattle.crypto_specs.specs.Prelude.{aes_decrypt, aes_encrypt, cbc_decrypt, cbc_encrypt, ccm_tag, ccm_text, ctr_xor, ecb_decrypt, ecb_encrypt, expand, extract, gcm_tag, gcm_text, pbkdf2, pkcs7_padded, pkcs7_unpadded}
pub use Rattle.key_attributes.specs.{Checks.checked, Checks.location, declared.Attributes.Attributes, declared.Policy.Policy}
pub use Rattle.policy_rules.specs.{Narrow.after_rules, Policy.IsWithin, Policy.may_use, Policy.meet_of}
pub use Rattle.psa_status.specs.{Rows.Rows, Rows.first_row, Rows.unless, Rows.◌>>=◌, declared.Status.Status}
pub use Rattle.psa_status.specs.declared.Status.TheVariants.{AlreadyExists, BadState, BufferTooSmall, HardwareFailure, InsufficientData, InsufficientStorage, InvalidArgument, InvalidHandle, InvalidPadding, InvalidSignature, KeyLimit, NotPermitted, NotSupported, Success}
pub use Rattle.std.specs.Option.{option_and_then, option_map, option_map_or}
pub use Rattle.store_model.specs.{Algorithms.digest, Algorithms.hash_block_length, Algorithms.hash_length_of, Algorithms.hash_of, Algorithms.is_hmac, Algorithms.low_byte, Algorithms.mac_of, Algorithms.tag_bytes, Draws.Random, Faults.Corrupt, Faults.FaultMark, Faults.Hardware, Faults.Plain, Faults.Reading, Faults.Storage, Faults.Writing, Faults.is_of_fault, Faults.marked_reply}
pub use Rattle.store_model.specs.Call.{AeadDecrypt, AeadEncrypt, Call, CipherDecrypt, CipherEncrypt, Copy, Description, Destroy, Export, Generate, GetAttributes, HashCompare, HashCompute, Identifier, Import, MacCompute, MacVerify, Number, Output, Purge, Reply, buffer_after}
pub use Rattle.store_model.specs.Outcome.{Computed, Outcome, computed_unless, counted, decided, done, given, refusal, refused, replies, reply_unless, spoiled, with_computed}
pub use Rattle.store_model.specs.Store.{Key, OpenedKey, Settings, Store, caller_count, count_in_range, count_persistent, is_in_range, is_low, is_per_range, lacks_room, persistent_limit, range_limit, first_volatile, has_secure_element, is_opaque, is_opaque_key, is_persistent_key, is_volatile, live_volatile, made_of, next_volatile, start_of}
