-- What each change of a slot ends.

-- a slot keeps all
use Rattle.key_slots.proofs.Common.{ap, Bool, cases_eq, cond, destroyed_slot, empty_slot, EndsOnly, false, find, find_passes, full_within, holds_key, inl, inr, is_idle, is_last, IsEmptyAt, IsEmptyOrIdle, IsLastOf, IsLawful, IsNext, KeepsSlot, key_is_full, left, length, List, NoneEmpty, refl, set, Slot, slot_at, slot_at-set_other, slot_at-set_same, Some, Table, true, ℕ, ⊎_elim, ◌-◌, ◌<◌, ◌∙◌, ◌≡◌, ◌≢◌, ◌⊎◌}

pub keeps_all : (s : Slot) → KeepsSlot s s
keeps_all s = record { state = refl; creation = refl; attributes = refl; buffer = refl }

same_keeps : (old new : Slot) → new ≡ old → KeepsSlot old new
same_keeps old new same = rw same (keeps_all old)

keeps_on : (a b c : Slot) → KeepsSlot a b → KeepsSlot b c → KeepsSlot a c
keeps_on a b c first then = record {
  state = then.state ∙ first.state;
  creation = then.creation ∙ first.creation;
  attributes = then.attributes ∙ first.attributes;
  buffer = then.buffer ∙ first.buffer;
}

-- no slot ends where none changes
pub ends_none : (slots : List Slot) (allowed : ℕ → Slot → Type 0) → EndsOnly slots slots allowed
ends_none slots allowed = λ k lt. inl (keeps_all (slot_at slots k))

-- a slot that is set ends alone
pub ends_one : (slots : List Slot) (i : ℕ) (s : Slot) (allowed : ℕ → Slot → Type 0) → (KeepsSlot (slot_at slots i) s ⊎ allowed i (slot_at slots i)) → i < length slots → EndsOnly slots (set slots i s) allowed
ends_one slots i s allowed here within = λ k lt.
    ⊎_elim
    (λ (same : k ≡ i). rw (same, slot_at-set_same slots i s within) here)
    (λ (other : k ≢ i). inl (same_keeps (slot_at slots k) (slot_at (set slots i s) k) (slot_at-set_other slots i k s other)))
    (cases_eq k i)

-- one call ends slots, and then another does
pub ends_then : (old mid new : List Slot) (first then both : ℕ → Slot → Type 0) → EndsOnly old mid first → EndsOnly mid new then →
    ((i : ℕ) → first i (slot_at old i) → both i (slot_at old i)) → ((i : ℕ) → KeepsSlot (slot_at old i) (slot_at mid i) → then i (slot_at mid i) → both i (slot_at old i)) → EndsOnly old new both
ends_then old mid new first then both one two by_first by_then = λ i lt.
    ⊎_elim
    (λ (kept : KeepsSlot (slot_at old i) (slot_at mid i)). ⊎_elim
    (λ (on : KeepsSlot (slot_at mid i) (slot_at new i)). inl (keeps_on (slot_at old i) (slot_at mid i) (slot_at new i) kept on))
    (λ (ended : then i (slot_at mid i)). inr (by_then i kept ended))
    (two i lt))
    (λ (ended : first i (slot_at old i)). inr (by_first i ended))
    (one i lt)

-- THE CALLS

-- what a reservation takes is empty or idle
pub next_taken : (t : Table) (i : ℕ) → IsNext t i → IsEmptyOrIdle (slot_at t.slots i)
next_taken t i next =
    ⊎_elim
    (λ (empty : IsEmptyAt t.slots i). inl empty.1)
    (λ (idle : NoneEmpty t.slots × (find (λ k. is_idle (slot_at t.slots k)) t.recency ≡ Some i)). inr (find_passes (λ k. is_idle (slot_at t.slots k)) t.recency i idle.1))
    next

-- a lease is given back
pub leave_ends : (slots : List Slot) (i : ℕ) → i < length slots → EndsOnly slots (set slots i (left (slot_at slots i))) (IsLastOf i)
leave_ends slots i within = ends_one slots i (left (slot_at slots i)) (IsLastOf i) (here (slot_at slots i) (is_last (slot_at slots i)) refl) within where
  here : (s : Slot) (b : Bool) → is_last s ≡ b → KeepsSlot s (cond b empty_slot (record s { readers = s.readers - 1 })) ⊎ IsLastOf i i s
  here s true last = inr (refl, last)
  here s false more = inl (record { state = refl; creation = refl; attributes = refl; buffer = refl })

pub last_empties : (slots : List Slot) (i : ℕ) → i < length slots → is_last (slot_at slots i) ≡ true → slot_at (set slots i (left (slot_at slots i))) i ≡ empty_slot
last_empties slots i within last = slot_at-set_same slots i (left (slot_at slots i)) within ∙ ap (λ b. cond b empty_slot (record (slot_at slots i) { readers = (slot_at slots i).readers - 1 })) last

-- a key is destroyed
pub destroy_leaves : (t : Table) (id i : ℕ) → IsLawful t → holds_key id (slot_at t.slots i) ≡ true → (k : ℕ) → holds_key id (slot_at t.slots k) ≡ true →
    slot_at (set t.slots i (destroyed_slot (slot_at t.slots i))) k ≡ destroyed_slot (slot_at t.slots k)
destroy_leaves t id i law has k had =
    rw (law.one id k i had has) (slot_at-set_same t.slots i (destroyed_slot (slot_at t.slots i)) (full_within t.slots i (key_is_full id (slot_at t.slots i) has)))
