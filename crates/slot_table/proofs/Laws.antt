-- What keeps the law of a table.
use Rattle.slot_table.proofs.Common.{[], add-zero, ap, arith, Bool, buffer_of, CanReserve, cases_eq, cond, Empty, empty_slot, false, false≢true, Filling, find, Full, full_slot, get_or_past, holds_key, inl, inr, is_empty_state, is_full, is_idle, is_last, is_pending, is_some, IsEmptyAt, IsLawful, IsLawfulSlot, length, length-replicate, length-set, List, MatchOption, nat_tests, NoKey, None, NoneEmpty, Option, Pending, recency_without, refl, replicate, rules, set, Slot, slot_at, SlotState, Some, sym, Table, times, true, ℕ, ⊎_elim, ◌&&◌, ◌++◌, ◌+◌, ◌-◌, ◌<◌, ◌==◌, ◌∙◌, ◌∷◌, ◌≡◌, ◌≢◌, ◌≤◌}
use Rattle.key_attributes.specs.declared.Attributes.{Attributes}
use Rattle.slot_table.proofs.{AtSlots.at_each, AtSlots.full_test, AtSlots.read_within, AtSlots.key_is_full, AtSlots.idle_is_full, AtSlots.idle_is_unread, AtSlots.bytes-buffer_of, AtSlots.find_passes, Views.get_or-replicate_same, Times.times-append, Times.times-same, Times.times-other, Times.without_none, Times.length_distinct}

-- one slot changes, and recency with it
pub record Changes (t : Table) (i : ℕ) (s : Slot) (recency : List ℕ) : Type 0 where
  pub within : i < length t.slots
  pub lawful : IsLawfulSlot s
  pub here : times i recency ≡ cond (is_full s.state) 1 0
  pub others : (k : ℕ) → k ≢ i → times k recency ≡ times k t.recency
  pub one : (id : ℕ) → holds_key id s ≡ true → (j : ℕ) → holds_key id (slot_at t.slots j) ≡ true → j ≡ i

pub keeps_law : (t : Table) (i : ℕ) (s : Slot) (recency : List ℕ) → IsLawful t → Changes t i s recency → IsLawful (record { slots = set t.slots i s; recency = recency })
keeps_law t i s recency law c = record {
  sized = length-set t.slots i s ∙ law.sized;
  each = at_each (λ k x. IsLawfulSlot x) t.slots i s c.within c.lawful (λ k other. law.each k);
  recent = at_each (λ k x. times k recency ≡ cond (is_full x.state) 1 0) t.slots i s c.within c.here (λ k other. c.others k other ∙ law.recent k);
  one = λ id a b. at_each (λ k x. holds_key id x ≡ true → holds_key id (slot_at (set t.slots i s) b) ≡ true → k ≡ b) t.slots i s c.within
      (λ has. at_each (λ k x. holds_key id x ≡ true → i ≡ k) t.slots i s c.within (λ has'. refl) (λ k other has'. sym (c.one id has k has')) b)
      (λ k other has. at_each (λ j x. holds_key id x ≡ true → k ≡ j) t.slots i s c.within (λ has'. c.one id has' k has) (λ j other' has'. law.one id k j has has') b)
      a;
}

pub lawful_empty : IsLawfulSlot empty_slot
lawful_empty = record { empty = λ h. refl; filling = λ h. absurd (cc); pending = λ h. absurd (cc); short = omega arith; rest = refl }

pub lawful_new : (creation : ℕ) (attributes : Attributes) (bytes : List ℕ) → length bytes ≤ 1024 → IsLawfulSlot (full_slot creation attributes bytes)
lawful_new creation attributes bytes short = record {
  empty = λ h. absurd (cc);
  filling = λ h. absurd (cc);
  pending = λ h. absurd (cc);
  short = rw (bytes-buffer_of bytes) short;
  rest = sym (ap buffer_of (bytes-buffer_of bytes));
}

-- a slot that keeps its buffer and is full, or pending and read
pub lawful_full : (s new : Slot) → IsLawfulSlot s → new.buffer ≡ s.buffer → new.state ≡ Full → IsLawfulSlot new
lawful_full s new law same full = record {
  empty = λ h. absurd (cc);
  filling = λ h. absurd (cc);
  pending = λ h. absurd (cc);
  short = rw same law.short;
  rest = rw same law.rest;
}

pub lawful_pending : (s new : Slot) → IsLawfulSlot s → new.buffer ≡ s.buffer → new.state ≡ Pending → 0 < new.readers → IsLawfulSlot new
lawful_pending s new law same pending read = record {
  empty = λ h. absurd (cc);
  filling = λ h. absurd (cc);
  pending = λ h. read;
  short = rw same law.short;
  rest = rw same law.rest;
}

-- a slot without a usable key changes to another such
pub stays_unused : (t : Table) (i : ℕ) (s : Slot) → IsLawful t → i < length t.slots → is_full (slot_at t.slots i).state ≡ false → is_full s.state ≡ false → IsLawfulSlot s → IsLawful (record { slots = set t.slots i s; recency = t.recency })
stays_unused t i s law within before after lawful = keeps_law t i s t.recency law (record {
  within = within;
  lawful = lawful;
  here = law.recent i ∙ ap (λ b. cond b 1 0) (before ∙ sym after);
  others = λ k other. refl;
  one = λ id has j had. absurd (false≢true (sym after ∙ full_test s.state (key_is_full id s has)));
})

-- a full slot stays full with its attributes
same_key : (s old : Slot) → old.state ≡ Full → s.state ≡ Full → s.attributes ≡ old.attributes → (id : ℕ) → holds_key id s ≡ true → holds_key id old ≡ true
same_key s old before after same id has = ap (λ x. is_full x && (old.attributes.id.0 == id)) (before ∙ sym after) ∙ ap (λ (a : Attributes). is_full s.state && (a.id.0 == id)) (sym same) ∙ has

pub stays_full : (t : Table) (i : ℕ) (s : Slot) → IsLawful t → i < length t.slots → (slot_at t.slots i).state ≡ Full → s.state ≡ Full → s.attributes ≡ (slot_at t.slots i).attributes → IsLawfulSlot s → IsLawful (record { slots = set t.slots i s; recency = t.recency })
stays_full t i s law within before after same lawful = keeps_law t i s t.recency law (record {
  within = within;
  lawful = lawful;
  here = law.recent i ∙ ap (λ x. cond (is_full x) 1 0) (before ∙ sym after);
  others = λ k other. refl;
  one = λ id has j had. law.one id j i had (same_key s (slot_at t.slots i) before after same id has);
})

times-alone : (k i : ℕ) → k ≢ i → times k (i ∷ []) ≡ 0
times-alone k i other = search rules

-- and is registered
pub becomes_last : (t : Table) (i : ℕ) (s : Slot) → IsLawful t → i < length t.slots → (slot_at t.slots i).state ≡ Full → s.state ≡ Full → s.attributes ≡ (slot_at t.slots i).attributes → IsLawfulSlot s → IsLawful (record { slots = set t.slots i s; recency = recency_without i t.recency ++ i ∷ [] })
becomes_last t i s law within before after same lawful = keeps_law t i s (recency_without i t.recency ++ i ∷ []) law (record {
  within = within;
  lawful = lawful;
  here = times-append i (recency_without i t.recency) (i ∷ []) ∙ ap (λ n. n + times i (i ∷ [])) (times-same i t.recency) ∙ once ∙ sym (ap (λ x. cond (is_full x) 1 0) after);
  others = λ k other. times-append k (recency_without i t.recency) (i ∷ []) ∙ ap (λ n. n + times k (i ∷ [])) (times-other k i t.recency other) ∙ ap (λ n. times k t.recency + n) (times-alone k i other) ∙ add-zero (times k t.recency);
  one = λ id has j had. law.one id j i had (same_key s (slot_at t.slots i) before after same id has);
}) where
  once : 0 + times i (i ∷ []) ≡ 1
  once = search rules

-- a full slot loses its key
pub loses_key : (t : Table) (i : ℕ) (s : Slot) → IsLawful t → i < length t.slots → is_full s.state ≡ false → IsLawfulSlot s → IsLawful (record { slots = set t.slots i s; recency = recency_without i t.recency })
loses_key t i s law within after lawful = keeps_law t i s (recency_without i t.recency) law (record {
  within = within;
  lawful = lawful;
  here = times-same i t.recency ∙ ap (λ b. cond b 1 0) (sym after);
  others = λ k other. times-other k i t.recency other;
  one = λ id has j had. absurd (false≢true (sym after ∙ full_test s.state (key_is_full id s has)));
})

-- a slot gets a key whose identifier no other has
pub gets_key : (t : Table) (i : ℕ) (s : Slot) → IsLawful t → i < length t.slots → is_full (slot_at t.slots i).state ≡ false → s.state ≡ Full → NoKey s.attributes.id.0 t.slots → IsLawfulSlot s → IsLawful (record { slots = set t.slots i s; recency = t.recency ++ i ∷ [] })
gets_key t i s law within before after unknown lawful = keeps_law t i s (t.recency ++ i ∷ []) law (record {
  within = within;
  lawful = lawful;
  here = times-append i t.recency (i ∷ []) ∙ ap (λ n. n + times i (i ∷ [])) (law.recent i ∙ ap (λ b. cond b 1 0) before) ∙ once ∙ sym (ap (λ x. cond (is_full x) 1 0) after);
  others = λ k other. times-append k t.recency (i ∷ []) ∙ ap (λ n. times k t.recency + n) (times-alone k i other) ∙ add-zero (times k t.recency);
  one = λ id has j had. absurd (false≢true (sym (unknown j) ∙ ap (λ n. holds_key n (slot_at t.slots j)) (same_id id has) ∙ had));
}) where
  once : 0 + times i (i ∷ []) ≡ 1
  once = search rules

  same_id : (id : ℕ) → holds_key id s ≡ true → s.attributes.id.0 ≡ id
  same_id id has = search rules

-- a read slot loses a reader, and isn't the last of a pending one
pub loses_reader : (t : Table) (i : ℕ) → IsLawful t → 0 < (slot_at t.slots i).readers → is_last (slot_at t.slots i) ≡ false → IsLawful (record { slots = set t.slots i (record (slot_at t.slots i) { readers = (slot_at t.slots i).readers - 1 }); recency = t.recency })
loses_reader t i law read more = by_state (slot_at t.slots i).state refl where
  old : Slot
  old = slot_at t.slots i

  unread : old.readers ≡ 0 → IsLawful (record { slots = set t.slots i (record old { readers = old.readers - 1 }); recency = t.recency })
  unread none = absurd (omega (arith, none, read))

  many : old.state ≡ Pending → 0 < old.readers - 1
  many pending =
      ⊎_elim (λ (one : old.readers ≡ 1). absurd (false≢true (sym more ∙ ap (λ x. is_pending x && (old.readers == 1)) pending ∙ ap (λ n. n == 1) one))) (λ (other : old.readers ≢ 1). omega (arith, read, other)) (cases_eq old.readers 1)

  by_state : (state : SlotState) → old.state ≡ state → IsLawful (record { slots = set t.slots i (record old { readers = old.readers - 1 }); recency = t.recency })
  by_state Empty is = unread (ap (λ (s : Slot). s.readers) ((law.each i).empty is))
  by_state Filling is = unread (ap (λ (s : Slot). s.readers) ((law.each i).filling is))
  by_state Full is = stays_full t i (record old { readers = old.readers - 1 }) law (read_within t.slots i read) is is refl (lawful_full old (record old { readers = old.readers - 1 }) (law.each i) refl is)
  by_state Pending is = stays_unused t i (record old { readers = old.readers - 1 }) law (read_within t.slots i read) (ap is_full is) (ap is_full is) (lawful_pending old (record old { readers = old.readers - 1 }) (law.each i) refl is (many is))

pub pending_is_unused : (s : Slot) → is_last s ≡ true → is_full s.state ≡ false
pending_is_unused s last = by_state s.state (s.readers == 1) last where
  by_state : (state : SlotState) (one : Bool) → is_pending state && one ≡ true → is_full state ≡ false
  by_state Full one is = absurd (false≢true is)
  by_state state one is = refl

-- the table as it begins
pub lawful_start : (n : ℕ) → n ≡ 384 → IsLawful (record { slots = replicate n empty_slot; recency = [] })
lawful_start n is = record {
  sized = length-replicate n empty_slot ∙ is;
  each = λ i. rw (get_or-replicate_same n i empty_slot) lawful_empty;
  recent = λ i. rw (get_or-replicate_same n i empty_slot) refl;
  one = λ id i j has has'. absurd (false≢true (ap (holds_key id) (sym (get_or-replicate_same n i empty_slot)) ∙ has));
}

-- recency has room while a slot isn't full
pub recency_has_room : (t : Table) (i : ℕ) → IsLawful t → i < length t.slots → is_full (slot_at t.slots i).state ≡ false → length t.recency < 384
recency_has_room t i law within unused =
    let long : length (i ∷ t.recency) ≤ 384 = length_distinct 384 (i ∷ t.recency) once none in
    omega (arith, long) where
      none : (k : ℕ) → 384 ≤ k → times k (i ∷ t.recency) ≡ 0
      none k past =
          let other : i ≢ k = omega (arith, within, law.sized) in
          let at : times k t.recency ≡ 0 = law.recent k ∙ ap (λ (s : Slot). cond (is_full s.state) 1 0) (get_or_past t.slots k empty_slot (omega (arith, law.sized))) in
          grind (arith, nat_tests)

      once : (k : ℕ) → times k (i ∷ t.recency) ≤ 1
      once k =
          ⊎_elim
          (λ (same : k ≡ i).
          let at : times i t.recency ≡ 0 = law.recent i ∙ ap (λ b. cond b 1 0) unused in
          rw same (grind (arith, nat_tests)))
          (λ (other : k ≢ i).
          let at : times k t.recency ≤ 1 = rw (law.recent k) (grind (arith, nat_tests)) in
          grind (arith, nat_tests))
          (cases_eq k i)

-- what a look along a row doesn't find isn't in the row
pub find_misses : (p : ℕ → Bool) (xs : List ℕ) (x : ℕ) → find p xs ≡ None → p x ≡ true → times x xs ≡ 0
find_misses p [] x none passes = refl
find_misses p (y ∷ ys) x none passes =
    elim (p y) as (λ b. p y ≡ b → cond b (Some y) (find p ys) ≡ None → cond (y == x) 1 0 + times x ys ≡ 0) [
      | true ↦ λ t h. absurd (cc)
      | false ↦ λ t h.
          ⊎_elim
          (λ (same : y ≡ x). absurd (false≢true (sym t ∙ ap p same ∙ passes)))
          (λ (other : y ≢ x). let rest : times x ys ≡ 0 = find_misses p ys x h passes in grind (arith, nat_tests))
          (cases_eq y x)
    ] refl none

-- where a slot can be reserved and none is empty, one of recency is idle
some_is_idle : (t : Table) → IsLawful t → CanReserve t.slots → NoneEmpty t.slots → find (λ i. is_idle (slot_at t.slots i)) t.recency ≡ None → ⊥
some_is_idle t law can full none =
    ⊎_elim
    (λ (free : (can.0 < length t.slots) × (is_empty_state (slot_at t.slots can.0).state ≡ true)). false≢true (sym (full can.0 free.0) ∙ free.1))
    (λ (idle : is_idle (slot_at t.slots can.0) ≡ true).
    let absent : times can.0 t.recency ≡ 0 = find_misses (λ i. is_idle (slot_at t.slots i)) t.recency can.0 none idle in
    let present : times can.0 t.recency ≡ 1 = law.recent can.0 ∙ ap (λ x. cond (is_full x) 1 0) (idle_is_full (slot_at t.slots can.0) idle) in
    omega (arith, absent, present))
    can.1

pub idle_is_found : (t : Table) (oldest : Option ℕ) → IsLawful t → CanReserve t.slots → NoneEmpty t.slots → oldest ≡ find (λ i. is_idle (slot_at t.slots i)) t.recency
    → is_some oldest ≡ true
idle_is_found t None law can full first = absurd (some_is_idle t law can full (sym first))
idle_is_found t (Some oldest) law can full first = refl

-- an empty slot isn't in recency
pub empty_is_not_recent : (t : Table) (i : ℕ) → IsLawful t → is_empty_state (slot_at t.slots i).state ≡ true → t.recency ≡ recency_without i t.recency
empty_is_not_recent t i law empty = sym (without_none i t.recency (law.recent i ∙ ap (λ b. cond b 1 0) (unused (slot_at t.slots i).state empty))) where
  unused : (state : SlotState) → is_empty_state state ≡ true → is_full state ≡ false
  unused Full is = absurd (false≢true is)
  unused state is = refl

-- the first of recency that is idle
pub first_is_full : (t : Table) (i : ℕ) → find (λ k. is_idle (slot_at t.slots k)) t.recency ≡ Some i → (slot_at t.slots i).state ≡ Full
first_is_full t i found = idle_is_full (slot_at t.slots i) (find_passes (λ k. is_idle (slot_at t.slots k)) t.recency i found)

pub first_is_unread : (t : Table) (i : ℕ) → find (λ k. is_idle (slot_at t.slots k)) t.recency ≡ Some i → (slot_at t.slots i).readers ≡ 0
first_is_unread t i found = idle_is_unread (slot_at t.slots i) (find_passes (λ k. is_idle (slot_at t.slots k)) t.recency i found)

-- what a look for an empty slot, and then one for an idle slot, say of a reservation
pub reserves_empty : (slots : List Slot) (found : Option ℕ) → MatchOption found (NoneEmpty slots) (λ i. IsEmptyAt slots i) → is_some found ≡ true → CanReserve slots
reserves_empty slots (Some i) empty some = (i, inl empty)
reserves_empty slots None empty some = absurd (false≢true some)

pub finds_none : (slots : List Slot) (found : Option ℕ) → MatchOption found (NoneEmpty slots) (λ i. IsEmptyAt slots i) → is_some found ≡ false → NoneEmpty slots
finds_none slots None none is = none
finds_none slots (Some i) none is = absurd (false≢true (sym is))

pub reserves_idle : (t : Table) (found : Option ℕ) → IsLawful t → NoneEmpty t.slots → found ≡ find (λ i. is_idle (slot_at t.slots i)) t.recency → (is_some found ≡ true → CanReserve t.slots) × (CanReserve t.slots → is_some found ≡ true)
reserves_idle t (Some i) law full is =
    (λ some. (i, inr (find_passes (λ k. is_idle (slot_at t.slots k)) t.recency i (sym is))), λ can. refl)
reserves_idle t None law full is =
    (λ some. absurd (false≢true some), λ can. absurd (some_is_idle t law can full (sym is)))
