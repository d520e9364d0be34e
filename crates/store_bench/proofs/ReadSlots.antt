-- What becomes of slots that are read, and of those that nobody reads.
use Rattle.std.proofs.{Common.List, Common.ap, Common.arith, Common.cond, Common.refl, Common.replicate, Common.set, Common.suc, Common.zero, Common.ℕ, Common.◌&&◌, Common.◌+◌, Common.◌-◌, Common.◌==◌, Common.◌∙◌, Common.◌≡◌, lemmas.List.set-set, lemmas.List.set-get_or}
use Rattle.slot_states.specs.declared.SlotState.TheVariants.{Full}
use Rattle.slot_table.specs.{Slots.Slot, Slots.Table, Slots.slot_at, Slots.empty_slot, Slots.is_pending, Slots.IsNext, Slots.IsLawful, Changes.registered, Changes.left}
use Rattle.slot_table.proofs.AtSlots.{slot_at-set_same, slot_at-set_other, full_within, next_is_unread}
use Rattle.store_bench.specs.Readers.{AllUnread, ReadStay}

-- a reservation takes a slot that nobody reads
pub others_stay : (t : Table) (r : ℕ) (s : Slot) → IsLawful t → IsNext t r → ReadStay t.slots (set t.slots r s)
others_stay t r s law next i read =
    slot_at-set_other t.slots r i s
    (λ same.
    let unread : (slot_at t.slots i).readers ≡ 0 = ap (λ k. (slot_at t.slots k).readers) same ∙ next_is_unread t r law next in
    omega (arith, unread, read))

pub all_unread_start : (n : ℕ) → AllUnread (replicate n empty_slot)
all_unread_start zero i = refl
all_unread_start (suc n) zero = refl
all_unread_start (suc n) (suc i) = all_unread_start n i

-- a full slot that is read once is as it was
pub as_before : (slots : List Slot) (i : ℕ) → (slot_at slots i).state ≡ Full → set (set slots i (registered (slot_at slots i))) i (left (slot_at (set slots i (registered (slot_at slots i))) i)) ≡ slots
as_before slots i full =
    set-set slots i (registered (slot_at slots i)) (left (slot_at (set slots i (registered (slot_at slots i))) i))
    ∙ ap (λ s. set slots i (left s)) (slot_at-set_same slots i (registered (slot_at slots i)) (full_within slots i full))
    ∙ ap (set slots i) (same (slot_at slots i) full)
    ∙ set-get_or slots i empty_slot where
      same : (s : Slot) → s.state ≡ Full → left (registered s) ≡ s
      same s full =
          ap (λ x. cond (is_pending x && (s.readers + 1 == 1)) empty_slot (record s { readers = s.readers + 1 - 1 })) full
          ∙ ap (λ n. record s { readers = n }) (let e : s.readers + 1 - 1 ≡ s.readers = omega arith in e)
