-- What keeps the law of a table and its index.
use Rattle.slot_table.proofs.Common.{Entry, Filling, Full, IsIndexed, IsLawfulSlot, IsPermutation, List, NoKey, Reserved, Slot, Table, [], ap, arith, cond, empty_slot, false, holds_key, is_full, length, length-append, length_permutation, recency_without, refl, replicate, set, slot_at, sym, times, ℕ, ◌++◌, ◌<◌, ◌∙◌, ◌∷◌, ◌≡◌}
use Rattle.slot_table.proofs.{Indexed.has_unused, Indexed.index_stays, Indexed.slot_gains, Indexed.slot_loses, Views.get_or-replicate_same, Laws.gets_key, Laws.lawful_start, Laws.loses_key, Laws.recency_has_room, Laws.stays_unused, AtSlots.filling_within, Times.length-without}

pub unused_stays : (t : Table) (i : ℕ) (s : Slot) (entries : List Entry) → IsIndexed t entries → i < length t.slots → is_full (slot_at t.slots i).state ≡ false → is_full s.state ≡ false → IsLawfulSlot s → IsIndexed (record { slots = set t.slots i s; recency = t.recency }) entries
unused_stays t i s entries kept within before after lawful = record {
  law = stays_unused t i s kept.law within before after lawful;
  index = index_stays t.slots i s entries within (λ id. has_unused id s after ∙ sym (has_unused id (slot_at t.slots i) before)) kept.index;
  sized = kept.sized;
}

pub table_gains : (t : Table) (i : ℕ) (s : Slot) (entries more : List Entry) → IsIndexed t entries → i < length t.slots → is_full (slot_at t.slots i).state ≡ false → s.state ≡ Full → NoKey s.attributes.id.0 t.slots → IsLawfulSlot s
    → IsPermutation (record { id = s.attributes.id.0; place = i } ∷ entries) more → IsIndexed (record { slots = set t.slots i s; recency = t.recency ++ i ∷ [] }) more
table_gains t i s entries more kept within before after unknown lawful moved = record {
  law = gets_key t i s kept.law within before after unknown lawful;
  index = slot_gains t.slots i s entries more within before after moved kept.index;
  sized = omega (arith, length_permutation _ _ moved, kept.sized, length-append t.recency (i ∷ []));
}

pub table_loses : (t : Table) (i : ℕ) (s : Slot) (entries fewer : List Entry) → IsIndexed t entries → i < length t.slots → (slot_at t.slots i).state ≡ Full → is_full s.state ≡ false → IsLawfulSlot s
    → IsPermutation entries (record { id = (slot_at t.slots i).attributes.id.0; place = i } ∷ fewer) → IsIndexed (record { slots = set t.slots i s; recency = recency_without i t.recency }) fewer
table_loses t i s entries fewer kept within before after lawful moved =
    let once : times i t.recency ≡ 1 = kept.law.recent i ∙ ap (λ x. cond (is_full x) 1 0) before in record {
      law = loses_key t i s kept.law within after lawful;
      index = slot_loses t.slots i s entries fewer within before after moved kept.index;
      sized = omega (arith, length_permutation _ _ moved, kept.sized, length-without i t.recency, once);
    }

-- a slot that waits for its key has room in recency and in the index
pub record HasRoom (t : Table) (i : ℕ) (entries : List Entry) : Type 0 where
  pub here : i < length t.slots
  pub unused : is_full (slot_at t.slots i).state ≡ false
  pub within : i < 384
  pub recency : length t.recency < 384
  pub absent : times i t.recency ≡ 0
  pub index : length entries < 384

pub has_room : (t : Table) (i : ℕ) (entries : List Entry) (slots : List Slot) (reserved : Reserved) → IsIndexed t entries → t.slots ≡ slots → record { slot = i } ≡ reserved
    → (slot_at slots reserved.slot).state ≡ Filling → HasRoom t i entries
has_room t i entries slots reserved kept same is filling =
    let filling' : (slot_at t.slots i).state ≡ Filling = rw (same, ap (λ (r : Reserved). r.slot) is) filling in
    let here = filling_within t.slots i filling' in
    let unused : is_full (slot_at t.slots i).state ≡ false = ap is_full filling' in
    let room = recency_has_room t i kept.law here unused in record {
      here = here;
      unused = unused;
      within = omega (arith, here, kept.law.sized);
      recency = room;
      absent = kept.law.recent i ∙ ap (λ b. cond b 1 0) unused;
      index = omega (arith, room, kept.sized);
    }

pub table_starts : (n : ℕ) → n ≡ 384 → IsIndexed (record { slots = replicate n empty_slot; recency = [] }) []
table_starts n is = record {
  law = lawful_start n is;
  index = λ id i. ap (λ (s : Slot). cond (holds_key id s) 1 0) (sym (get_or-replicate_same n i empty_slot));
  sized = refl;
}
