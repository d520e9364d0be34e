-- What stands at the slots of a table, for this crate and those above it.
use Rattle.slot_table.proofs.Common.{[], ap, arith, Bool, buffer_of, bytes_of, cases_eq, cases_lt, cond, Empty, empty_slot, eqb-true, false, false≢true, Filling, find, Full, get_or-set_other, get_or-set_same, get_or_past, holds_key, is_empty_state, is_full, is_idle, IsEmptyAt, IsLawful, IsNext, length, List, NoneEmpty, refl, replicate, set, Slot, slot_at, SlotState, Some, sym, Table, take_at, true, ℕ, ⊎_elim, ◌&&◌, ◌-◌, ◌<◌, ◌==◌, ◌∙◌, ◌∷◌, ◌≡◌, ◌≢◌}
use Rattle.key_attributes.specs.Checks.{persistence}

-- what holds of the new slot and of each other one holds of each slot after the change
pub at_each : (P : ℕ → Slot → Type 0) (slots : List Slot) (i : ℕ) (s : Slot) → i < length slots → P i s → ((k : ℕ) → k ≢ i → P k (slot_at slots k)) → (k : ℕ) → P k (slot_at (set slots i s) k)
at_each P slots i s within here others k =
    ⊎_elim
    (λ (same : k ≡ i). rw (same, get_or-set_same slots i s empty_slot within) here)
    (λ (other : k ≢ i). rw (get_or-set_other slots i k s empty_slot other) (others k other))
    (cases_eq k i)

pub slot_at-set_same : (slots : List Slot) (i : ℕ) (s : Slot) → i < length slots → slot_at (set slots i s) i ≡ s
slot_at-set_same slots i s within = get_or-set_same slots i s empty_slot within

pub slot_at-set_other : (slots : List Slot) (i k : ℕ) (s : Slot) → k ≢ i → slot_at (set slots i s) k ≡ slot_at slots k
slot_at-set_other slots i k s other = get_or-set_other slots i k s empty_slot other

-- a slot that isn't empty stands in the table
pub within_table : (slots : List Slot) (i : ℕ) → (slot_at slots i ≡ empty_slot → ⊥) → i < length slots
within_table slots i used =
    ⊎_elim (λ within. within) (λ past. absurd (used (get_or_past slots i empty_slot past))) (cases_lt i (length slots))

pub full_within : (slots : List Slot) (i : ℕ) → (slot_at slots i).state ≡ Full → i < length slots
full_within slots i full = within_table slots i (λ same. let e : Full ≡ Empty = sym full ∙ ap (λ (s : Slot). s.state) same in cc)

pub filling_within : (slots : List Slot) (i : ℕ) → (slot_at slots i).state ≡ Filling → i < length slots
filling_within slots i filling = within_table slots i (λ same. let e : Filling ≡ Empty = sym filling ∙ ap (λ (s : Slot). s.state) same in cc)

pub read_within : (slots : List Slot) (i : ℕ) → 0 < (slot_at slots i).readers → i < length slots
read_within slots i read = within_table slots i (λ same. let e : (slot_at slots i).readers ≡ 0 = ap (λ (s : Slot). s.readers) same in omega arith)

-- a key that is found is in a full slot
pub full_test : (state : SlotState) → state ≡ Full → is_full state ≡ true
full_test state full = ap is_full full

pub key_is_full : (id : ℕ) (s : Slot) → holds_key id s ≡ true → s.state ≡ Full
key_is_full id s has = only_full s.state (s.attributes.id.0 == id) has where
  only_full : (state : SlotState) (same : Bool) → is_full state && same ≡ true → state ≡ Full
  only_full Full same has = refl
  only_full state same has = absurd (false≢true has)

-- an idle slot is full and unread
pub idle_is_full : (s : Slot) → is_idle s ≡ true → s.state ≡ Full
idle_is_full s idle = by_state s.state (persistence s.attributes.lifetime.0 == 1) (s.readers == 0) idle where
  by_state : (state : SlotState) (persistent unread : Bool) → is_full state && persistent && unread ≡ true → state ≡ Full
  by_state Full persistent unread is = refl
  by_state state persistent unread is = absurd (false≢true is)

pub idle_is_unread : (s : Slot) → is_idle s ≡ true → s.readers ≡ 0
idle_is_unread s idle = eqb-true _ _ (by_test (is_full s.state && persistence s.attributes.lifetime.0 == 1) (s.readers == 0) idle) where
  by_test : (a b : Bool) → a && b ≡ true → b ≡ true
  by_test true b is = is
  by_test false b is = absurd (false≢true is)

-- a read of a list that is in use gives the list
pub bytes-buffer_of : (bytes : List ℕ) → bytes_of (buffer_of bytes) ≡ bytes
bytes-buffer_of bytes = take_at bytes (replicate (1024 - length bytes) 0) (length bytes) refl

-- what a look along a row finds passes the test
pub find_passes : (p : ℕ → Bool) (xs : List ℕ) (x : ℕ) → find p xs ≡ Some x → p x ≡ true
find_passes p [] x found = absurd (cc)
find_passes p (y ∷ ys) x found =
    elim (p y) as (λ b. p y ≡ b → cond b (Some y) (find p ys) ≡ Some x → p x ≡ true) [
      | true ↦ λ t h. let same : y ≡ x = cc in ap p (sym same) ∙ t
      | false ↦ λ t h. find_passes p ys x h
    ] refl found

-- the slot that a reservation takes stands in the table, and nobody reads it
pub next_within : (t : Table) (i : ℕ) → IsNext t i → i < length t.slots
next_within t i next =
    ⊎_elim
    (λ (empty : IsEmptyAt t.slots i). empty.0)
    (λ (idle : NoneEmpty t.slots × (find (λ k. is_idle (slot_at t.slots k)) t.recency ≡ Some i)).
    full_within t.slots i (idle_is_full (slot_at t.slots i) (find_passes (λ k. is_idle (slot_at t.slots k)) t.recency i idle.1)))
    next

pub next_is_unread : (t : Table) (i : ℕ) → IsLawful t → IsNext t i → (slot_at t.slots i).readers ≡ 0
next_is_unread t i law next =
    ⊎_elim
    (λ (empty : IsEmptyAt t.slots i). ap (λ (s : Slot). s.readers) ((law.each i).empty (only_empty (slot_at t.slots i).state empty.1)))
    (λ (idle : NoneEmpty t.slots × (find (λ k. is_idle (slot_at t.slots k)) t.recency ≡ Some i)).
    idle_is_unread (slot_at t.slots i) (find_passes (λ k. is_idle (slot_at t.slots k)) t.recency i idle.1))
    next where
      only_empty : (state : SlotState) → is_empty_state state ≡ true → state ≡ Empty
      only_empty Empty is = refl
      only_empty state is = absurd (false≢true is)
