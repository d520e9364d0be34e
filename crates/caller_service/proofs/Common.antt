-- What several proofs of this crate cite of its words, and of other crates'.
pub use Rattle.caller_service.specs.{Closing.IsClosedOver, Closing.WasRetired, Closing.WereRetired, Allotments.IsAllotment, Staff.IsNewCaller}
pub use Rattle.callers.specs.{Prelude.AreIdle, Prelude.IsReady, Prelude.IsRetired, Prelude.MakesNoCall, declared.caller.Caller.Caller}
pub use Rattle.locked_store.specs.Prelude.{IsClosed, World, caller_of, world, world_of}
pub use Rattle.operation_handles.specs.{Handles.IsOperation, States.AreInactive}
pub use Rattle.std.proofs.Common.{All, IfSome, List, None, Option, Some, [], ap, append_assoc, arith, get_or, get_or-set_other, get_or-set_same, inl, inr, length, length-append, length-set, map, option_to_list, refl, reverse, set, subst, sym, vec_capacity, vec_len, ℕ, ◌++◌, ◌+◌, ◌<◌, ◌∙◌, ◌∷◌, ◌≡◌, ◌≤◌}
pub use Rattle.std.proofs.{lemmas.List.append-nil, lemmas.List.get_or_append_left, lemmas.List.get_or_default, lemmas.List.get_or_push, lemmas.List.length_push, lemmas.List.map-append, lemmas.List.reverse-append, lemmas.List.Elements.All-cons, lemmas.List.Elements.All-nil, lemmas.List.Elements.All-pop, lemmas.List.Elements.All-push}
pub use Rattle.store_model.specs.Prelude.{Entry, Inactive}
pub use Rattle.turn_history.specs.Prelude.{account_of, AreNew, calls_by, entries_of, IsIdle, new_pass, StartsWith}
