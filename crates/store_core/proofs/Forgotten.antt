-- What a device has of the keys that are destroyed.
use Rattle.store_core.proofs.Common.{Agrees, ap, cell_state, CellState, cond, false, false_from_ne_true, false≢true, has_id, HeldKeys, holds_key, is_opaque, is_volatile, IsDirectory, IsForgotten, IsLawful, IsSoundStore, Key, key_of_slot, List, Model, Option, option_map, Pairs, same_Some, Slot, slot_at, subst, sym, Table, true, without_key, ℕ, ◌<◌, ◌∙◌, ◌≡◌, cell_count}
use Rattle.store_core.proofs.{ByElement.opaque_is_volatile, Kept.key_of_cell}

-- a device had no key of a slot that isn't the element's
pub local_forgotten : (slot : Slot) (held : Option HeldKeys) → is_opaque slot.attributes ≡ false → IsForgotten slot held held
local_forgotten slot held local = sym (ap (λ b. cond b (option_map (without_key slot.creation) held) held) local)

-- nor one of a key that a cell has
pub kept_forgotten : (cells : List CellState) (slots : List Slot) (m : Model) (all : List Pairs) (id c i : ℕ) (held : Option HeldKeys) → IsDirectory cells m → IsSoundStore m → Agrees slots m all →
    c < cell_count → has_id id (cell_state cells c) ≡ true → i < 384 → holds_key id (slot_at slots i) ≡ true → IsForgotten (slot_at slots i) held held
kept_forgotten cells slots m all id c i held d sound agrees within has lt holds = local_forgotten (slot_at slots i) held (false_from_ne_true (is_opaque (slot_at slots i).attributes) (λ opaque.
    let k = key_of_slot slots m all id i agrees lt holds in
    let own = key_of_cell cells m id c d within has in
    let same : k.0 ≡ own.0 = same_Some k.0 own.0 (sym k.1 ∙ own.1) in
    false≢true (sym own.2 ∙ (ap (λ (x : Key). is_volatile x.attributes) (sym same) ∙ (opaque_is_volatile m id k.0 k.1 sound (ap is_opaque (sym k.2.attributes) ∙ opaque))))))

-- all slots of a destroyed key's identifier are one
pub slot_forgotten : (t : Table) (id slot i : ℕ) (old new : Option HeldKeys) → IsLawful t → holds_key id (slot_at t.slots slot) ≡ true → holds_key id (slot_at t.slots i) ≡ true →
    IsForgotten (slot_at t.slots slot) old new → IsForgotten (slot_at t.slots i) old new
slot_forgotten t id slot i old new law there has gone = subst (λ k. IsForgotten (slot_at t.slots k) old new) (law.one id slot i there has) gone
