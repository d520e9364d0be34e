-- What a table's index makes of its changes.
use Rattle.slot_table.proofs.Common.{Entry, Full, IsIndexOf, IsPermutation, List, Slot, ap, false, holds_key, index_gains, index_loses, index_same, is_full, length, refl, set, slot_at, ℕ, ◌&&◌, ◌<◌, ◌==◌, ◌∙◌, ◌∷◌, ◌≡◌, ◌≢◌}
use Rattle.slot_table.proofs.AtSlots.{at_each, slot_at-set_other, slot_at-set_same}

-- whether a full slot has a key, and one that isn't full
has_full : (id : ℕ) (s : Slot) → s.state ≡ Full → holds_key id s ≡ (s.attributes.id.0 == id)
has_full id s full = ap (λ x. is_full x && (s.attributes.id.0 == id)) full

pub has_unused : (id : ℕ) (s : Slot) → is_full s.state ≡ false → holds_key id s ≡ false
has_unused id s unused = ap (λ b. b && (s.attributes.id.0 == id)) unused

others : (slots : List Slot) (i : ℕ) (s : Slot) (id k : ℕ) → k ≢ i → holds_key id (slot_at (set slots i s) k) ≡ holds_key id (slot_at slots k)
others slots i s id k other = ap (holds_key id) (slot_at-set_other slots i k s other)

-- a slot changes and keeps its key, if it has one
pub index_stays : (slots : List Slot) (i : ℕ) (s : Slot) (entries : List Entry) → i < length slots → ((id : ℕ) → holds_key id s ≡ holds_key id (slot_at slots i))
    → IsIndexOf (λ id k. holds_key id (slot_at slots k)) entries → IsIndexOf (λ id k. holds_key id (slot_at (set slots i s) k)) entries
index_stays slots i s entries within same index =
    index_same _ _ entries (λ id k. at_each (λ j x. holds_key id x ≡ holds_key id (slot_at slots j)) slots i s within (same id) (λ j other. refl) k) index

-- a slot gets a key
pub slot_gains : (slots : List Slot) (i : ℕ) (s : Slot) (entries more : List Entry) → i < length slots → is_full (slot_at slots i).state ≡ false → s.state ≡ Full
    → IsPermutation (record { id = s.attributes.id.0; place = i } ∷ entries) more → IsIndexOf (λ id k. holds_key id (slot_at slots k)) entries → IsIndexOf (λ id k. holds_key id (slot_at (set slots i s) k)) more
slot_gains slots i s entries more within before after moved index =
    index_gains _ _ (record { id = s.attributes.id.0; place = i }) entries more
    (λ id. has_unused id (slot_at slots i) before)
    (λ id. ap (holds_key id) (slot_at-set_same slots i s within) ∙ has_full id s after)
    (others slots i s)
    moved
    index

-- a full slot loses its key
pub slot_loses : (slots : List Slot) (i : ℕ) (s : Slot) (entries fewer : List Entry) → i < length slots → (slot_at slots i).state ≡ Full → is_full s.state ≡ false
    → IsPermutation entries (record { id = (slot_at slots i).attributes.id.0; place = i } ∷ fewer) → IsIndexOf (λ id k. holds_key id (slot_at slots k)) entries → IsIndexOf (λ id k. holds_key id (slot_at (set slots i s) k)) fewer
slot_loses slots i s entries fewer within before after moved index =
    index_loses _ _ (record { id = (slot_at slots i).attributes.id.0; place = i }) entries fewer
    (λ id. has_full id (slot_at slots i) before)
    (λ id. ap (holds_key id) (slot_at-set_same slots i s within) ∙ has_unused id s after)
    (others slots i s)
    moved
    index
