-- The changes of a slot's state.
use Rattle.std.specs.Prelude.{ℕ, Bool, true, false, ◌==◌, nat_lt}
use Rattle.slot_states.specs.{declared.SlotState.SlotState, declared.SlotState.TheVariants.Empty, declared.SlotState.TheVariants.Filling, declared.SlotState.TheVariants.Full, declared.SlotState.TheVariants.Pending}

-- Whether a slot that so many read may change from a state to another. A reservation makes an empty slot wait for its key;
-- the end of the creation makes it full, and a creation that is given up makes it empty. Destruction makes a full slot
-- pending where it is read; where nobody reads it, destruction, purge and eviction make it empty. The last reader that
-- leaves makes a pending slot empty.
abbrev pub may_change : SlotState → SlotState → ℕ → Bool
may_change Empty Filling readers = true
may_change Filling Full readers = true
may_change Filling Empty readers = true
may_change Full Pending readers = nat_lt 0 readers
may_change Full Empty readers = readers == 0
may_change Pending Empty readers = readers == 1
may_change _ _ readers = false
