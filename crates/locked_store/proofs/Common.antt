-- What several proofs of this crate cite of its words, and of other crates'.
pub use Rattle.key_cells.specs.Prelude.{store_size}
pub use Rattle.atomic_table.specs.declared.shared.Seat.{Seat}
pub use Rattle.key_policy.specs.Uses.{FitsUse, use_refusal}
pub use Rattle.key_slots.specs.Holdings.{AreHoldings, Gains, IsHolding, Pairs, named, names, same}
pub use Rattle.locked_store.specs.{Prelude.IsClosed, Prelude.World, Prelude.world, Prelude.world_of, Standing.HoldsHistory, Standing.caller_of}
unfoldable pub use Rattle.locked_store.specs.Shared.{lock_of, opened_of}
pub use Rattle.locked_store.specs.Turning.{CreatesKey, DecidesAfter, DecidesBefore, GoesOn, HasNoFilling, HasRoomForLease, IsAt, IsBegun, IsEntered, IsEnteredAfter, IsLater, IsLegal, IsOwn, IsRanked, IsStartOf, LeavesAllKeys, ReadsKey, SpendsOneTurn, ToldBy, after_change, filling_pair, lease_pair, mark_met, result_mark, turn_entry, without_pair}
pub use Rattle.secret_bytes.specs.Buffer.{IsClear, bytes_of}
pub use Rattle.secure_element_calls.specs.Answers.{mark_computed}
pub use Rattle.service_calls.specs.Meanings.{model_request}
pub use Rattle.std.proofs.Common.{All, Bool, Err, IfErr, IfOk, IfSome, List, None, Ok, Option, Result, Some, [], ap, append-nil, arith, cond, count_by, eqb, false, get_or, get_or-set_same, inl, inr, is_some, length, length-set, nat_lt, option_map, refl, replicate, set, subst, suc, sym, true, zero, ℕ, ⊎_elim, ◌&&◌, ◌++◌, ◌+◌, ◌-◌, ◌<◌, ◌==◌, ◌^◌, ◌∙◌, ◌∷◌, ◌≡◌, ◌≤◌}
pub use Rattle.std.proofs.lemmas.Result.{IfErr-at_err, IfErr-weaker, IfOk-at_ok, IfOk-weaker, on_err_weaker, on_ok_weaker}
pub use Rattle.std.specs.List.{AllByRecursion}
pub use Rattle.store_core.proofs.{Histories.quiet_leaves, Histories.refused_leaves, Histories.told_before, Holding.has_model}
pub use Rattle.store_core.specs.Prelude.{Adds, AddsAs, AreRising, Copies, course_of, Creates, Destroys, durable_keys, FindsKeysOf, Gives, HasRoom, HasAttributes, HasKeyOrIsClosed, HasKeyOrZeros, HasModel, HasOpaque, HasOut, HasOutBeside, IsAmong, IsElementAnswered, IsEntry, IsLent, IsMade, IsReading, IsRefused, IsStart, IsTold, IsUncopied, IsUndestroyed, IsUnmade, LeavesKeys, Makes, mark_of, mark_uncopied, mark_undestroyed, mark_unmade, MayDestroy, NoFewerFaults, Opening, opening_of, Reads, ReadsAndGives, RecordsCopy, RecordsStated, Stands, StandsFor, Steps, Takes, there_rows}
pub use Rattle.store_core.specs.{declared.store.Opened.Opened, declared.store.Store.Store}
pub use Rattle.store_model.specs.Prelude.{Call, Copy, Destroy, Entry, FaultCounts, FaultMark, HasNumber, IsCaller, IsCaused, IsSoundStore, OnStore, Plain, Request, Service, created_unless, destroy_rows, id_read, is_opaque_key, may_change_keys, plain_step, replay}
pub use Rattle.turn_history.specs.{Prelude.OwnCalls, Prelude.StartsWith, Prelude.after_turn, Prelude.calls_by, Prelude.entries_of, Prelude.option_list, Prelude.held_by, Prelude.with_held_by, declared.pass.View.View}
pub use Rattle.psa_status.specs.declared.Status.TheVariants.{InvalidHandle, Success}
pub use Rattle.turn_history.proofs.Lists.{begins_longer, entries-append, entries_fewer, entries_one}
