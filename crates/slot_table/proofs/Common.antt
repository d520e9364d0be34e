-- What several proofs of this crate cite of its words, and of other crates'.
pub use Rattle.slot_table.specs.{Links.AreLinksOf, Links.AreNeighbours, Links.IsLinked, Links.links_joined, Links.link_at, Links.linked_slots, Links.newer_than, Links.older_than, Index.IsIndexed, Changes.full_slot, Changes.recency_without, Lent.Reserved, Rows.AreRows, Rows.empty_head, Rows.head_at, Rows.no_key, Rows.slot_of, Rows.slots_of, Rows.stored_at, declared.place.Head.Head}
pub use Rattle.key_index.specs.{declared.index.Entry.Entry, Index.IsAlone, Index.IsIndexOf, Index.entries_of}
pub use Rattle.key_index.proofs.Changes.{index_finds, index_gains, index_loses, index_same}
pub use Rattle.std.proofs.{lemmas.List.Sorted.IsPermutation-insert, lemmas.List.Sorted.IsPermutation-remove, lemmas.List.Sorted.IsPermutation-sym, lemmas.List.Sorted.length_permutation, lemmas.List.Sorted.sum_by-IsPermutation, lemmas.Bool.cases_eq, lemmas.Bool.cases_lt, lemmas.Bool.eq-eqb, lemmas.Bool.false≢true, lemmas.Bool.ne_eqb, lemmas.Bool.Decides.nat_tests}
pub use Rattle.std.specs.{List.Sorted.IsPermutation, List.AllWithin, List.remove}
pub use Rattle.secret_bytes.specs.Buffer.{buffer_of, bytes_of}
pub use Rattle.slot_states.specs.{declared.SlotState.SlotState, declared.SlotState.TheVariants.Empty, declared.SlotState.TheVariants.Filling, declared.SlotState.TheVariants.Full, declared.SlotState.TheVariants.Pending}
pub use Rattle.slot_table.specs.Slots.{CanReserve, IsEmptyAt, IsLawful, IsLawfulSlot, IsNext, NoKey, NoneEmpty, Slot, Table, empty_slot, holds_key, is_empty_state, is_full, is_idle, is_last, is_pending, slot_at, times}
pub use Rattle.std.proofs.lemmas.List.{get_or-replicate, get_or-set_other, get_or-set_same, get_or_default, get_or_past, get_or_read, length-replicate, length-set, set-get_or, set-set, take_at}
pub use Rattle.std.proofs.Common.{Bool, List, MatchOption, None, Option, Some, [], add-zero, add_assoc, ap, arith, below_more, cond, drop, eqb, eqb-true, false, find, get_or, inl, inr, is_some, length, length-append, not, refl, replicate, rules, set, subst, suc, sym, true, vec_capacity, zero, zero-add, ℕ, ⊎_elim, ◌&&◌, ◌*◌, ◌++◌, ◌+◌, ◌-◌, ◌/◌, ◌<◌, ◌==◌, ◌^◌, ◌∙◌, ◌∷◌, ◌≡◌, ◌≢◌, ◌≤◌}
