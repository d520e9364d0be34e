-- What several proofs of this crate cite of its words, and of other crates'.
pub use Rattle.caller_service.specs.Staff.{AreStaff, IsNewCaller}
pub use Rattle.callers.proofs.{Journeys.begins_through, Journeys.seen_begins, Journeys.told_front, Known.known_more, Known.known_told}
pub use Rattle.callers.specs.{Prelude.IsAnswered, Prelude.IsCalled, Prelude.IsReady, Prelude.IsReplied, Prelude.KnowsBefore, Prelude.Legal, Prelude.failure_in, Prelude.failure_marked, Prelude.failure_told, declared.caller.Caller.Caller}
pub use Rattle.locked_store.specs.Prelude.{caller_of, ToldBy, World, world, world_of, IsStartOf}
pub use Rattle.owner_space.specs.{declared.names.Names.Names, declared.names.Names.TheVariants.Owned, declared.names.Names.TheVariants.Unowned, Naming.asked, Naming.told}
pub use Rattle.psa_status.specs.{declared.Memory.Memory, declared.Status.Status, Causes.Rose, declared.Status.TheVariants.DataCorrupt, declared.Status.TheVariants.HardwareFailure, declared.Status.TheVariants.StorageFailure, declared.Status.TheVariants.Success}
pub use Rattle.script_lang.specs.Prelude.{AreAllKept, AreCalls, AreKept, id_given, is_success, IsOfSession, lines_of, next_line, numbered, printed, replies_to, ReplyLine, request_of, text_in, Turn, turns_from, turns_of}
pub use Rattle.script_lang.specs.{declared.replies.Replies.Replies, declared.replies.ReplyForm.ReplyForm, declared.script.ScriptLine.ScriptLine}
pub use Rattle.service_calls.specs.{declared.output.Output.Output, Answered.AnswersReply}
pub use Rattle.session_host.specs.{Bounds.AreBounded, Bounds.ArePlain, Bounds.LinesAreBounded, Bounds.failures_marked, Bounds.is_failure, Dealing.AreDealt, Dealing.AreTaken, Dealing.HaveOwn, Dealing.IsFree, Dealing.IsFrom, Dealing.dealt, declared.session.Session.Session, declared.worker.Worker.Worker}
pub use Rattle.session_host.specs.{Places.failure_of, Places.failures_of, Places.failures_to, Places.of_calls, Places.ranked_call, Replying.ArePrintedAlike, Replying.Fills, Replying.IsNoted, Replying.NotesLine, Replying.reply_of}
pub use Rattle.session_host.specs.{Running.AreCallers, Running.HaveAnswered, Running.HaveKept, Running.HaveMade, Running.HaveSeen, Running.all_replies, Runs.AreAnswered, Runs.AreNumbered, Runs.IsOwnersRange, Runs.limits_by, Runs.unanswered_by, Runs.IsBroken, Runs.IsOpening, Runs.IsRun, Runs.IsInLineOrder}
pub use Rattle.session_host.specs.{Sessions.AreCalledIn, Sessions.AreTurnsIn, Sessions.GoesFurther, Sessions.HasAnswered, Sessions.HasMade, Sessions.HasReplies, Sessions.IsMade, Sessions.IsReplyTo, Sessions.IsTurnIn, Workers.AreApart, Workers.ChangesAt, Workers.HasLearned, Workers.HasSeated, Workers.HasSeen, Workers.HasWorked, Workers.HaveForm, Workers.HaveRun, Workers.IsOurs, Workers.numbers_of}
pub use Rattle.std.proofs.{Crossing.crosses, lemmas.Bool.Decides.eqb_tells, lemmas.Bool.Decides.leb_tells, lemmas.Bool.Decides.nat_tests, lemmas.List.Elements.All-cons, lemmas.List.Elements.All-head, lemmas.List.Elements.All-nil, lemmas.List.Elements.All-push, lemmas.List.Elements.All-set, lemmas.List.Elements.All-tail, lemmas.List.Elements.All-weaker, lemmas.List.Elements.filter-append}
pub use Rattle.std.proofs.Common.{All, Bool, Err, IfOk, IfSome, IsOk, List, MatchResult, None, Ok, Option, Result, Some, [], ap, append_assoc, ap₂, arith, cond, count_by, drop, eq-eqb, eqb, false, filter, flat_map, get_or, get_or-set_other, get_or-set_same, inl, inr, is_some, leb, length, length-append, length-set, length-take, length-take-le, map, min, ne_eqb, option_to_list, refl, replicate, set, subst, suc, sum_by, sym, take, take_all, true, vec_capacity, vec_len, zero, ℕ, ◌%◌, ◌++◌, ◌+◌, ◌-◌, ◌<◌, ◌==◌, ◌^◌, ◌∙◌, ◌∷◌, ◌≡◌, ◌≢◌, ◌≤◌, ◌⊎◌}
pub use Rattle.std.proofs.lemmas.List.{append-nil, get_or-map, get_or_append_left, get_or_default, get_or_push, length-map, length_push, map-append, set-get_or, take-append-le, take_more}
pub use Rattle.std.proofs.{lemmas.List.Sums.count_by-le-length, lemmas.List.Sums.length-filter, lemmas.List.Sums.sum_by-append, lemmas.List.Sums.sum_by-cons, lemmas.Nat.mod_below, Math.Seq.take-append_seam}
pub use Rattle.std.specs.Int.{to_be_bytes}
pub use Rattle.store_core.specs.{Prelude.AreRising, Prelude.Opening, Prelude.opening_after, Prelude.opening_of, declared.store.Opened.Opened}
pub use Rattle.store_model.specs.Prelude.{Corrupt, Entry, FaultCounts, FaultMark, Hardware, HasFault, IsCaused, Plain, Reply, Request, Service, Storage, StorageAccess, attribute_bytes, buffer_after, buffer_bytes, is_of_fault, last_counts, outcome_of, output_bytes, replay}
pub use Rattle.turn_history.proofs.Lists.{begins_itself, calls-append, two_beginnings}
pub use Rattle.turn_history.specs.{Prelude.StartsWith, Prelude.calls_by, Prelude.choose, Prelude.entries_of, Prelude.joined, declared.pass.View.View}
pub use denote.Param.Send.{Frees, IsSend, IsSync, arg_send, arg_sync, enum_send, param_send, param_sync, recorded_send, sendable}
