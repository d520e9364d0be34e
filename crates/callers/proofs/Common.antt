-- What several proofs of this crate cite of its words, and of other crates'.
pub use Rattle.callers.specs.Prelude.{AreIdle, AreOperations, ArePairs, FailsDerivation, HoldsLease, IsAnswered, IsAsked, IsBack, IsCalled, IsChanged, IsCreated, IsGivenBack, IsOwnPart, IsReady, IsReplied, IsRetired, IsRetiring, KnowsAlive, KnowsBefore, KnowsReply, Legal, MakesNoCall, MayGoBack, SameButPass, TellsFailure, busy, drawn_by, drawn_for, failure_in, failure_marked, failure_told, leases_of, operation_at, pairs_of, rekeyed, with_operation_at, with_secret, without_bytes}
pub use Rattle.callers.proofs.Known.{KnowsTold, known_more, known_told, own_reply}
pub use Rattle.callers.specs.{declared.caller.Caller.Caller, declared.handles.Handles.Handles}
pub use Rattle.derivation_states.specs.KeySteps.{output_key_refusal}
pub use Rattle.key_attributes.specs.{declared.Attributes.Attributes, declared.KeyId.KeyId}
pub use Rattle.key_policy.specs.{Uses.use_refusal, Uses.used_for, declared.key_use.KeyUse.KeyUse}
pub use Rattle.key_slots.specs.Holdings.{IsHolding, Pairs, names, same}
pub use Rattle.locked_store.specs.Prelude.{CreatesKey, DecidesAfter, DecidesBefore, GoesOn, HasNoFilling, HasRoomForLease, IsAt, IsEntered, IsLater, IsLooked, IsOwn, IsRanked, LeavesAllKeys, ReadsKey, World, caller_of, filling_pair, lease_pair, without_pair, world, IsStartOf, ToldBy}
pub use Rattle.multipart.specs.Turns.{is_active}
pub use Rattle.operation_handles.proofs.{Served.setups, Served.steps_are, ServedOutputs.outputs}
pub use Rattle.operation_handles.specs.{Handles.IsOperation, KeyInputs.RefusesKeyAt, KeyInputs.TakesKeyAt, KeyInputs.key_refused, KeyOutputs.IsDerivedKey, KeyOutputs.derived_key_refused, Laws.has_live_key, Steps.on_part, Steps.stepped_by, Setups.begun_with, Setups.refusal_without_key, Setups.set_up_by, Setups.set_up_with_key, Setups.set_up_without_key, Setups.work_begun, Setups.work_without_key}
pub use Rattle.operation_handles.specs.declared.handle.OperationHandle.{OperationHandle}
pub use Rattle.psa_status.proofs.Rows.{first_row-back, first_row-front}
pub use Rattle.psa_status.specs.{Rows.Rows, Rows.first_row, Rows.unless, Rows.◌>>=◌, declared.Status.Status}
pub use Rattle.psa_status.specs.declared.Status.TheVariants.{DataCorrupt, HardwareFailure, InsufficientData, InvalidArgument, InvalidHandle, InvalidSignature, NotSupported, StorageFailure, Success}
pub use Rattle.random_streams.specs.RandomWords.{RandomStream, drawn_from, next_bytes, random_bytes, words_used}
pub use Rattle.secret_bytes.specs.Buffer.{Buffer, IsClear, bytes_of}
pub use Rattle.secure_element_calls.specs.{Answers.AnswersCall, Answers.IsOfElement, Answers.mark_computed, Answers.not_computed_status, Calls.element_reply, Calls.model_call, Calls.rows_before, Replies.HasDrawn, Replies.all_rows, Replies.key_rows, Replies.reply_on, declared.calls.ElementCall.ElementCall, declared.calls.NotComputed.NotComputed}
pub use Rattle.secure_element_calls.specs.declared.calls.NotComputed.TheVariants.{Failed, Refused}
pub use Rattle.service_calls.specs.{Answered.AnswersReply, Answers.plain_reply, Meanings.model_hash_call, Meanings.model_keyed_call, Meanings.model_keyed_setup, Meanings.model_request, Meanings.model_setup, Meanings.model_step, declared.handle_calls.KeyedSetup.KeyedSetup, declared.handle_calls.KeylessSetup.KeylessSetup, declared.handle_calls.Setup.Setup}
pub use Rattle.service_calls.specs.{declared.handle_calls.Setup.TheVariants.Keyed, declared.handle_calls.Setup.TheVariants.Keyless, declared.output.Output.Output, declared.output.Output.TheVariants.Done, declared.store_calls.KeyedCall.KeyedCall}
pub use Rattle.single_part.proofs.{Draws.draws_none, Draws.few, Models.hashes, Models.keyed}
pub use Rattle.single_part.specs.{Elements.has_vector, Elements.is_of_element, Elements.takes_vector, Keyed.computed_by, Keyed.wanted_by}
pub use Rattle.slot_table.specs.Lent.{Reading}
pub use Rattle.std.proofs.Common.{All, Bool, Err, IfErr, IfNone, IfOk, IfSome, List, MatchOption, MatchResult, None, Ok, OnErr, OnOk, Option, Result, Some, [], ap, append_assoc, arith, bit_and, bytes_eq, cond, count_by, drop, eqb, false, get_or, if◌then◌else◌, inl, inr, is_some, length, length-append, length-set, min, nat_le, nat_lt, not, refl, rules, set, subst, suc, sym, take, take_all, true, vec_capacity, vec_len, zero, ℕ, ⊎_elim, ◌&&◌, ◌*◌, ◌++◌, ◌+◌, ◌-◌, ◌<◌, ◌==◌, ◌^◌, ◌||◌, ◌∙◌, ◌∷◌, ◌≡◌, ◌≢◌, ◌≤◌, ◌⊎◌}
pub use Rattle.std.proofs.{lemmas.Bool.false≢true, lemmas.Bool.Decides.eqb_tells, lemmas.Bool.Decides.nat_tests, lemmas.List.Sums.count_by-le-length, lemmas.List.Sums.sum_by-append, lemmas.List.Sums.sum_by-cons, lemmas.List.get_or-set_other, lemmas.List.get_or-set_same, lemmas.List.get_or_read_under, lemmas.List.length-take-le, lemmas.List.set-get_or, lemmas.List.set-set}
pub use Rattle.std.proofs.lemmas.List.Elements.{All-head, All-pop, All-push, All-tail, All-weaker}
pub use Rattle.store_core.proofs.Histories.{replay_push}
pub use Rattle.store_core.specs.Prelude.{HasAttributes, is_destruction, IsElementAnswered, IsLent, IsMade, IsRefused, IsTold, IsUncopied, IsUndestroyed, IsUnmade, mark_of, mark_uncopied, mark_undestroyed, mark_unmade, ReadsNone, RecordsCopy, RecordsStated, status_of, status_uncopied, status_undestroyed, status_unmade, there_rows}
pub use Rattle.store_core.specs.{declared.copying.NotCopied.NotCopied, declared.creating.NotMade.NotMade, declared.destroying.NotDestroyed.NotDestroyed, declared.store.Opened.Opened}
pub use Rattle.store_model.proofs.{DrawnBytes.length-random, Operations.start_operation, Operations.start_own, Others.leaves_callers, Others.leaves_settings, Others.leaves_shared, Recorded.few_bytes, Recorded.recorded, Recorded.recorded_refused, SoundService.by_number, Tables.NoFault, Tables.RefusesPlainly, Tables.refused_by, Tables.refuses_plainly, Unmarked.answers_plainly}
pub use Rattle.store_model.specs.Creation.{stated_bytes}
pub use Rattle.store_model.specs.Prelude.{Abort, Active, aead_part, AeadSetup, After, applied, asks_device, attributes_reply, Authenticating, buffer_after, bytes_of_key, Call, cipher_part, Ciphering, CipherSetup, class_rows, Computed, computed_unless, Copy, Corrupt, counted, created, created_unless, creation_of, Ctr, decided, derivation_key_rows, derivation_part, DerivationSetup, DerivationWork, derived_key, Deriving, Destroy, destroy_rows, destroyed, done, enciphered, ends, Entry, exhausted, export_rows, failed_step, fails, FaultMark, Generate, generated, generation_of, GetAttributes, given, goes_on, handle_step, HandleCall, HandleOperation, Hardware, has_secure_element, hash_part, Hashing, HashSetup, HasNumber, Held, held_after, held_with, id_read, Import, Inactive, InError, InputKey, is_alive, is_inactive, is_opaque_key, is_setup, IsCaller, IsSound, IsSoundOperation, IsSoundStore, Key, key_of_operation, key_step_rows, KeyCreation, mac_part, MacSetup, marked_reply, may_change_keys, new_own, next_derived, next_random, on_store, OnAead, OnCipher, OnDerivation, OnHandle, OnHash, OnMac, OnStore, Operation, operation_of, Outcome, outcome_of, output_key_rows, OutputKey, Own, own_of, part_of, Plain, plain_step, Purge, purge_reply, Random, recorded_copy, recorded_of, refusal, refused, replay, replies, Reply, reply_unless, Request, room_for_key_rows, room_rows, Sealing, serve, Served, Service, service_of, set_up, Settings, spoiled, start_of, stated_bits_rows, stays, step, Storage, Store, tag_bytes, taken_from, takes_key, underived, unless_failed, with_computed, with_drawn, with_key, with_operation, with_own, without, Work}
pub use Rattle.turn_history.proofs.Lists.{append_none, begins_itself, calls-append, entries-append}
pub use Rattle.turn_history.specs.{Prelude.IsOutside, Prelude.Mine, Prelude.OwnCalls, Prelude.StartsWith, Prelude.TURNS, Prelude.calls_by, Prelude.choose, Prelude.entries_of, Prelude.joined, Prelude.longer, Prelude.new_pass, declared.pass.View.View}
pub use Rattle.std.specs.{Option.option_map, Option.option_map_or, Option.option_to_list, Result.is_ok}
