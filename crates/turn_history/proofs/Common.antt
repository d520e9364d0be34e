-- What several proofs of this crate cite of its words, and of other crates'.
pub use Rattle.atomic_table.proofs.Lists.{at_longer, at_set, set_again, set_else}
pub use Rattle.atomic_table.specs.Table.{Allows, Enters, Final, Joins, Seen, Splits, State, gives, homes_after, keeps, opening, rest, step, takes}
pub use Rattle.std.proofs.Common.{All, Bool, List, None, Option, Some, [], ap, append-nil, append_assoc, arith, cond, eq-eqb, eqb, eqb-true, false, get_or, get_or-set_other, get_or-set_same, inl, inr, le-ltb, length, length-append, length-set, lt-ltb, map, ne_eqb, refl, replicate, rules, set, slice_get, subst, suc, sym, true, true≢false, vec_capacity, zero, ℕ, ⊎_elim, ◌%◌, ◌*◌, ◌++◌, ◌+◌, ◌-◌, ◌<◌, ◌^◌, ◌∙◌, ◌∷◌, ◌≡◌, ◌≢◌, ◌≤◌, ◌⊎◌}
pub use Rattle.std.proofs.lemmas.List.Elements.{All-append, All-cons, All-nil}
pub use Rattle.turn_history.specs.{Boxed.boxed_base, Boxed.boxed_stands, Closing.Closing, History.StartsWith, History.calls_by, History.choose, History.entries_of, History.option_list, Holdings.Holding, Holdings.held_by, Holdings.with_held_by, Steps.Found, Steps.came, Steps.compared, Steps.drawn, Steps.ended, Steps.fronted, Steps.looked, declared.pass.Account.Account, declared.pass.View.View}
pub use Rattle.turn_history.specs.{Passes.AreNew, Passes.IsIdle, Passes.accounts_of, Passes.weight_of, Rule.Away, Rule.LockState, Rule.Home, Rule.Kept, Rule.Knows, Rule.Owned, Rule.Remembers, Rule.total}
pub use Rattle.turn_history.specs.Views.{CanEnter, Mine, TURNS, account, account_of, after_making, after_turn, entered, first_view, gathering, in_its_turn_at, longer, made_pass, maker_of, merged, new_pass, spent, watcher, with_ticket}
pub use lib.ListN.{get_elem?, length-replicate}
pub use lib.Seq.{set-get_or}
pub use mathlib.Core.Logic.{dite}
pub use mathlib.Core.Option.{none, some, some-injective, some-ne-none}
pub use native.Mathlib.Decide.{dec_lt, ℕ_discrete}
