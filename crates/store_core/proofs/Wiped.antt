-- What is wiped: the slots of keys that are gone, and free cells.
use Rattle.store_core.proofs.Common.{Absent, Agrees, ap, arith, CellState, closed, Content, Doubtful, empty_slot, filling_slot, Free, HasNumber, inl, inr, is_full, IsLawfulSlot, List, Model, named, Pairs, Present, readers_out, refl, Shows, Slot, slot_at, subst, sym, zeros, ℕ, ◌+◌, ◌<◌, ◌∙◌, ◌≡◌, ◌⊎◌}
use Rattle.slot_states.specs.{declared.SlotState.SlotState, declared.SlotState.TheVariants.Empty, declared.SlotState.TheVariants.Filling, declared.SlotState.TheVariants.Full, declared.SlotState.TheVariants.Pending}

-- a cell that the directory has as free
pub shows_free : (slot : CellState) (content : Content) (gate body : List ℕ) → slot ≡ Free → Shows slot content gate body → (gate ≡ closed) × (body ≡ zeros)
shows_free slot content gate body free shows = go content (subst (λ (s : CellState). Shows s content gate body) free shows) where
  go : (c : Content) → Shows Free c gate body → (gate ≡ closed) × (body ≡ zeros)
  go Absent is = is
  go (Present bytes) is = absurd is
  go (Doubtful bytes) is = is

-- a slot of a number that no key has and no lease names is wiped
pub wiped_slot : (slots : List Slot) (m : Model) (all : List Pairs) (i number : ℕ) → Agrees slots m all → IsLawfulSlot (slot_at slots i) → i < 384 → (HasNumber m number → ⊥) → named i (number + 1) all ≡ 0 → (slot_at slots i).creation ≡ number →
    (slot_at slots i ≡ empty_slot) ⊎ (slot_at slots i ≡ filling_slot)
wiped_slot slots m all i number agrees law lt gone none is = go (slot_at slots i).state refl where
  go : (state : SlotState) → (slot_at slots i).state ≡ state → (slot_at slots i ≡ empty_slot) ⊎ (slot_at slots i ≡ filling_slot)
  go Empty at = inl (law.empty at)
  go Filling at = inr (law.filling at)
  go Full at = let f = (agrees.each i lt).full (ap is_full at) in absurd (gone ((slot_at slots i).attributes.id.0, f.0, f.1, sym f.2.number ∙ is))
  go Pending at =
      let read = law.pending at in
      let out = readers_out slots m all i lt agrees in
      let none_here : named i ((slot_at slots i).creation + 1) all ≡ 0 = ap (λ n. named i (n + 1) all) is ∙ none in
      absurd (omega arith)
