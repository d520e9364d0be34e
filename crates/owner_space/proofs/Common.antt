-- What several proofs of this crate cite of its words, and of other crates'.
pub use Rattle.alg_encoding.specs.declared.table.Class.{Class}
pub use Rattle.key_attributes.specs.declared.Attributes.{Attributes}
pub use Rattle.owner_space.specs.Owners.{Owners, call_inside, handle_call_inside, inside, inside_created, is_own_volatile, no_identifier, outside, renamed_attributes, request_inside}
pub use Rattle.policy_rules.specs.Policy.{meet_of}
pub use Rattle.psa_status.proofs.Rows.{unless-ok}
pub use Rattle.psa_status.specs.{Rows.Rows, Rows.first_row, Rows.unless, Rows.◌>>=◌, declared.Status.Status, declared.Status.TheVariants.InsufficientData, declared.Status.TheVariants.InvalidArgument, declared.Status.TheVariants.InvalidHandle}
pub use Rattle.std.proofs.lemmas.Bool.Decides.{nat_tests}
pub use Rattle.store_model.proofs.{Others.leaves_settings, Recorded.IsStated, Recorded.stated_id, Sound.put, Sound.taken}
pub use Rattle.store_model.specs.Creation.{created, created_unless, new_id, new_key, recorded_of, stated_bits_rows, stated_bytes}
pub use Rattle.store_model.specs.Handles.{HandleOperation, KeyCreation, Own, Served, Service, Work, derivation_part, is_alive, key_of_operation, next_random, operation_of, own_of, part_of, with_drawn, with_operation}
pub use Rattle.store_model.specs.Store.{Key, KeyMap, Settings, Store, count_in_range, has_secure_element, is_in_range, is_low, is_volatile, is_volatile_of, lacks_room, made_of, range_limit}
pub use Rattle.store_model.specs.{Call.Copy, Call.Destroy, Call.Generate, Call.Identifier, Call.Import, Copies.copy_attributes, Copies.recorded_copy, Copies.source_rows, DerivationOperations.DerivationWork, DerivationOperations.next_derived, DerivationOperations.output_key_rows, Draws.Random, Faults.Plain, Generation.generated, HandleCalls.OutputKey, HandleCalls.derived_key, HandleCalls.derived_key_of, HandleCalls.output_key, KeyUse.bytes_of_key, KeyUse.destroyed, Operations.Active, Operations.InError, Operations.Inactive, Operations.Operation, Outcome.counted, Outcome.decided, Requests.OnHandle, Requests.OnStore, Requests.Request, Requests.serve, Rules.cipher_usage, Rules.mac_usage, Rules.use_rows, Sound.IsSound, Sound.IsSoundOperation, Sound.IsSoundStore, Sound.IsVolatileOf, declared.limits.Limits.TheVariants.PerRange}
