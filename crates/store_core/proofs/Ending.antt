-- Which slots the calls within a turn end.
use Rattle.store_core.proofs.Common.{Agrees, ap, arith, empty_slot, ends_then, EndsOnly, full_within, holds_key, inl, inr, IsEmptyOrIdle, IsFillingOf, IsLawful, IsLawfulSlot, IsTakenOf, keeps_all, KeepsOrEmpties, KeepsSlot, key_is_full, key_of_slot, List, map_get, Model, None, none-some, Pairs, Slot, slot_at, subst, sym, Table, TakesOne, true, ℕ, ⊎_elim, ◌∙◌, ◌≡◌, ◌⊎◌}

-- a load takes a slot, and fills it or gives it up
pub load_ends : (old mid new : List Slot) (slot : ℕ) → IsEmptyOrIdle (slot_at old slot) → EndsOnly old mid (IsTakenOf slot) → EndsOnly mid new (IsFillingOf slot) → TakesOne old new
load_ends old mid new slot taken first then =
    (slot, ends_then old mid new (IsTakenOf slot) (IsFillingOf slot) (IsTakenOf slot) first then (λ i ended. ended) (λ i kept ended. (ended.0, subst (λ k. IsEmptyOrIdle (slot_at old k)) (sym ended.0) taken)))

-- a key is looked for, and lent
pub look_ends : (old mid new : List Slot) → TakesOne old mid → EndsOnly mid new (λ i s. ⊥) → TakesOne old new
look_ends old mid new first then =
    (first.0, ends_then old mid new (IsTakenOf first.0) (λ i s. ⊥) (IsTakenOf first.0) first.1 then (λ i ended. ended) (λ i kept ended. absurd ended))

-- a source is looked for, and then a slot that waits for its key is filled or given up
pub copy_ends : (old mid new : List Slot) (filling : ℕ) → TakesOne old mid → EndsOnly mid new (IsFillingOf filling) → (slot : ℕ) × EndsOnly old new (λ i s. IsFillingOf filling i s ⊎ IsTakenOf slot i s)
copy_ends old mid new filling first then = (
  first.0,
  ends_then old mid new (IsTakenOf first.0) (IsFillingOf filling) (λ i s. IsFillingOf filling i s ⊎ IsTakenOf first.0 i s) first.1 then
      (λ i ended. inr ended)
      (λ i kept ended. inl (ended.0, sym kept.state ∙ ended.1)),
)

-- no slot has a key that the model lacks
pub lacks_key : (t : Table) (m : Model) (all : List Pairs) (id : ℕ) → IsLawful t → Agrees t.slots m all → map_get m.keys id ≡ None → (i : ℕ) → holds_key id (slot_at t.slots i) ≡ true → ⊥
lacks_key t m all id law agrees none i has =
    let within = full_within t.slots i (key_is_full id (slot_at t.slots i) has) in
    let sized = law.sized in
    let k = key_of_slot t.slots m all id i agrees (omega arith) has in
    none-some k.0 (sym none ∙ k.1)

-- no slot changes
pub empties_none : (slots : List Slot) → KeepsOrEmpties slots slots
empties_none slots = λ i lt. inl (keeps_all (slot_at slots i))

-- a load takes a slot, and gives it up
pub load_empties : (old mid new : List Slot) (slot : ℕ) → EndsOnly old mid (IsTakenOf slot) → EndsOnly mid new (IsFillingOf slot) → slot_at new slot ≡ empty_slot → KeepsOrEmpties old new
load_empties old mid new slot first then emptied = λ i lt.
    ⊎_elim
    (λ kept. inl kept)
    (λ (same : i ≡ slot). inr (ap (slot_at new) same ∙ emptied))
    (ends_then old mid new (IsTakenOf slot) (IsFillingOf slot) (λ k s. k ≡ slot) first then (λ k ended. ended.0) (λ k kept ended. ended.0) i lt)

-- a slot that keeps what it has is empty where it was
still_empty : (old new : Slot) → IsLawfulSlot new → KeepsSlot old new → old ≡ empty_slot → new ≡ empty_slot
still_empty old new law kept empty = law.empty (kept.state ∙ ap (λ (s : Slot). s.state) empty)

-- a source could not be read, and the slot that waited for its copy is given up
pub copy_empties : (old mid : List Slot) (new : Table) (slot : ℕ) → IsLawful new → KeepsOrEmpties old mid → EndsOnly mid new.slots (IsFillingOf slot) → slot_at new.slots slot ≡ empty_slot → KeepsOrEmpties old new.slots
copy_empties old mid new slot law first then emptied = λ i lt.
    ⊎_elim
    (λ (kept : KeepsSlot (slot_at mid i) (slot_at new.slots i)). ⊎_elim
    (λ (before : KeepsSlot (slot_at old i) (slot_at mid i)). inl (record {
      state = kept.state ∙ before.state;
      creation = kept.creation ∙ before.creation;
      attributes = kept.attributes ∙ before.attributes;
      buffer = kept.buffer ∙ before.buffer;
    }))
    (λ (empty : slot_at mid i ≡ empty_slot). inr (still_empty (slot_at mid i) (slot_at new.slots i) (law.each i) kept empty))
    (first i lt))
    (λ (ended : IsFillingOf slot i (slot_at mid i)). inr (ap (slot_at new.slots) ended.0 ∙ emptied))
    (then i lt)
