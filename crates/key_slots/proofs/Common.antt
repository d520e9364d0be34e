-- What several proofs of this crate cite of its words, and of other crates'.
pub use Rattle.key_attributes.specs.{Checks.is_lifetime, Checks.location, Checks.persistence, declared.Attributes.Attributes}
pub use Rattle.key_slots.specs.{Holdings.AreHoldings, Holdings.Gains, Holdings.IsHolding, Holdings.Pairs, Holdings.named, Holdings.names, Holdings.same, Standing.Agrees, Standing.IsGone, Standing.IsThereOrNew, Standing.IsVolatileKey, Standing.HasSameKeys, Standing.Puts, Standing.SlotHasKey, Standing.StandsAt, Standing.is_filling, Standing.pairs_on}
pub use Rattle.key_slots.specs.Wiping.{EndsOnly, IsEmptyOrIdle, IsFillingOf, IsIdleOf, IsLastOf, IsTakenOf, KeepsSlot}
pub use Rattle.slot_states.specs.{declared.SlotState.SlotState, declared.SlotState.TheVariants.Empty, declared.SlotState.TheVariants.Filling, declared.SlotState.TheVariants.Full, declared.SlotState.TheVariants.Pending}
pub use Rattle.slot_table.proofs.AtSlots.{at_each, filling_within, find_passes, full_within, idle_is_full, idle_is_unread, key_is_full, next_is_unread, next_within, read_within, slot_at-set_other, slot_at-set_same}
pub use Rattle.slot_table.specs.Changes.{destroyed_slot, full_slot, left, registered}
pub use Rattle.slot_table.specs.Slots.{CanReserve, IsEmptyAt, IsLawful, IsLawfulSlot, IsNext, NoKey, NoneEmpty, Slot, Table, empty_slot, filling_slot, holds_key, is_empty_state, is_full, is_idle, is_last, is_pending, slot_at}
pub use Rattle.std.proofs.{lemmas.Bool.cases_eq, lemmas.Bool.cases_lt, lemmas.Bool.false≢true, lemmas.Bool.Decides.nat_tests, lemmas.Cmp.nat_cmp_total, lemmas.Cmp.ranked}
pub use Rattle.std.specs.Bool.{OnFalse, OnTrue}
pub use Rattle.store_model.specs.Prelude.{HasNumber, IsChecked, IsSoundStore, Key, Store, as_stated, has_secure_element, identified, is_volatile, is_volatile_of}
pub use Rattle.std.proofs.Common.{[], All, ap, arith, Bool, cond, count_by, eq-eqb, eqb, false, find, inl, inr, is_some, length, List, nat_lt, ne_eqb, None, not, Ok, Option, refl, replicate, set, Some, suc, sym, true, zero, ℕ, ⊎_elim, ◌&&◌, ◌*◌, ◌+◌, ◌-◌, ◌/◌, ◌<◌, ◌==◌, ◌^◌, ◌||◌, ◌∙◌, ◌∷◌, ◌≡◌, ◌≢◌, ◌≤◌, ◌⊎◌}
pub use Rattle.std.specs.FinMap.{FinMap as map_FinMap, empty_of_len as map_empty_of_len, get as map_get, get-empty as map_get-empty, get-remove as map_get-remove, get-retain_keys as map_get-retain_keys, len as map_len, len-remove as map_len-remove, remove as map_remove, retain_keys}
