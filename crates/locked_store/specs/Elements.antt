-- What comes of a look for a key that the secure element may hold.
use Rattle.std.specs.Prelude.{◌≡◌, ℕ, false, List, ◌∷◌}
use Rattle.std.specs.FinMap as map
use Rattle.secret_bytes.specs.Buffer.{IsClear, bytes_of}
use Rattle.turn_history.specs.declared.pass.View.{View}
use Rattle.secure_element_calls.specs.{declared.calls.ElementCall.ElementCall, Answers.mark_computed}
use Rattle.key_policy.specs.{declared.key_use.KeyUse.KeyUse, Uses.FitsUse, Uses.use_refusal}
use Rattle.store_model.specs.Prelude.{Plain, Store, is_opaque_key, Request, Entry}
use Rattle.store_core.specs.{declared.store.Opened.Opened, Prelude.IsElementAnswered, Prelude.IsLent, Prelude.IsRefused, Prelude.mark_of}
use Rattle.locked_store.specs.{declared.elements.Looked.Looked, declared.elements.Looked.TheVariants.Computed, declared.elements.Looked.TheVariants.Lent, declared.elements.Looked.TheVariants.Refused, Turning.DecidesAfter, Turning.IsRanked, Turning.lease_pair, Worlds.World}

module _ {D A C : Type 0} (store : World D A C)
    (v w : View Entry (Opened D A C)) (call : Request) (r id : ℕ) (wanted : KeyUse) (element : ElementCall) (old new : List ℕ) where
  -- P holds after the entry, and the key isn't the element's
  abbrev pub DecidesLocal : (Store → Type 0) → List Entry → Entry → Type 0
  DecidesLocal P = DecidesAfter store (λ m. P m × (is_opaque_key (map.get m.keys id) ≡ false))

  -- where the element has the key, it has computed, or refused to; else the key is lent, or the look refused, and the output
  -- buffer is as it was
  abbrev pub IsLooked : Looked → Type 0
  IsLooked (Computed result spare) = IsClear spare × IsRanked v w call (mark_computed result) r v.holding (DecidesAfter store (IsElementAnswered (store.devices.keys store.opened.devices.value) id element old new result))
  IsLooked (Lent lease) = (new ≡ old) × FitsUse wanted (bytes_of lease.buffer) × IsRanked v w call Plain r (lease_pair lease ∷ v.holding) (DecidesLocal (IsLent (use_refusal wanted) id lease))
  IsLooked (Refused status spare) = (new ≡ old) × IsClear spare × IsRanked v w call (mark_of status) r v.holding (DecidesLocal (IsRefused (use_refusal wanted) id status))
