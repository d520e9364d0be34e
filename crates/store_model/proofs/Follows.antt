-- The keys after a call are those before, and the one that the call made.
use Rattle.std.proofs.Common.{Bool, List, None, Option, Some, ap, arith, cond, false, inl, inr, refl, sym, true, ℕ, ◌+◌, ◌==◌, ◌∙◌, ◌≡◌, ◌≤◌, ◌⊎◌}
use Rattle.store_model.proofs.{Common.Active, Common.Attributes, Common.HandleOperation, Common.InError, Common.Inactive, Common.IsSoundCreation, Common.IsSoundOperation, Common.IsSoundUse, Common.Key, Common.KeyCreation, Common.KeyMap, Common.Store, Common.counted, Common.created, Common.destroyed, Common.new_id, Common.new_key, Sound.put, Sound.taken, Sound.left}
use Rattle.std.specs.FinMap as map

pub record Follows (store after : Store) : Type 0 where
  pub later : store.found + store.calls ≤ after.found + after.calls
  pub keys : (id : ℕ) (key : Key) → map.get after.keys id ≡ Some key → (map.get store.keys id ≡ Some key) ⊎ (key.number ≡ store.found + store.calls)

-- a store with the same keys
pub same_keys : (store after : Store) → after.keys ≡ store.keys → store.found + store.calls ≤ after.found + after.calls → Follows store after
same_keys store after same later = record { later = later; keys = λ id key e. inl (ap (λ (m : KeyMap). map.get m id) (sym same) ∙ e) }

pub counted_follows : (store : Store) → Follows store (counted store)
counted_follows store = same_keys store (counted store) refl (omega arith)

old_or_new : (store : Store) (new key : Key) (id : ℕ) (b : Bool) → new.number ≡ store.found + store.calls → cond b (Some new) (map.get store.keys id) ≡ Some key →
    (map.get store.keys id ≡ Some key) ⊎ (key.number ≡ store.found + store.calls)
old_or_new store new key id true number e = let is : new ≡ key = cc in inr (ap (λ (k : Key). k.number) (sym is) ∙ number)
old_or_new store new key id false number e = inl e

pub created_follows : (store : Store) (caller : ℕ) (kept : Attributes) (bytes : List ℕ) → Follows store (created store caller kept bytes).store
created_follows store caller kept bytes =
    let id : ℕ = new_id store caller kept in
    let new : Key = new_key store caller id kept bytes in
    record { later = omega arith; keys = λ q key e. old_or_new store new key q (q == id) refl (sym (put store.keys id new q) ∙ e) }

pub destroyed_follows : (store : Store) (id : ℕ) → Follows store (destroyed store id).store
destroyed_follows store id = record { later = omega arith; keys = λ q key e. inl (left (q == id) (map.get store.keys q) key (sym (taken store.keys id q) ∙ e)) }

-- AN OPERATION STAYS SOUND

no_other : (store : Store) (creation : KeyCreation) (id : ℕ) (key : Key) → IsSoundCreation store creation → key.number ≡ creation.number →
    (map.get store.keys id ≡ Some key) ⊎ (key.number ≡ store.found + store.calls) → id ≡ creation.id
no_other store creation id key h n (inl old) = h.identifier id key old n
no_other store creation id key h n (inr new) = absurd (let g = h.given in omega arith)

use_follows : (store after : Store) → Follows store after → (key : Option KeyCreation) → IsSoundUse store key → IsSoundUse after key
use_follows store after f None h = tt
use_follows store after f (Some creation) h = record {
  given = let g = h.given in let l = f.later in omega arith;
  identifier = λ id key e n. no_other store creation id key h n (f.keys id key e);
}

pub operation_follows : (store after : Store) → Follows store after → (operation : HandleOperation) → IsSoundOperation store operation → IsSoundOperation after operation
operation_follows store after f Inactive h = tt
operation_follows store after f InError h = tt
operation_follows store after f (Active held) h = record { key = use_follows store after f held.key h.key; work = h.work }
