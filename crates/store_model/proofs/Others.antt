-- A request draws few words, and leaves other callers, other handles of its caller, the settings, and where it changes no key the store.
use Rattle.std.proofs.Common.{Bool, List, Some, ap, cond, false, inl, inr, refl, slice_index_or, slice_set, sym, true, ℕ, ◌+◌, ◌∙◌, ◌≡◌, ◌≤◌, ◌⊎◌}
use Rattle.store_model.proofs.Common.{Attributes, counted, CountsOnce, created, destroyed, DrawsFewWords, FaultMark, get_or-set_other, handle_of, is_volatile, LeavesOtherCallers, LeavesOtherHandles, LeavesSettings, LeavesShared, made_of, may_change_keys, operation_of, Own, own_of, Request, serve, Served, Service, Store, with_own}
use Rattle.store_model.proofs.{Operations.drawn_most, Operations.other_own, Operations.operations_same, Operations.other_handle, Served.IsOwnAfter, Served.SetsOne, Served.request_shape}

-- OTHER CALLERS

abbrev LeavesCaller : Service → ℕ → Served → Type 0
LeavesCaller service other served = (own_of served.service other ≡ own_of service other) × (made_of served.service.store other ≡ made_of service.store other)

left_made : (b : Bool) (made : List ℕ) (caller other n : ℕ) → (other ≡ caller → ⊥) → slice_index_or (cond b (slice_set made caller n) made) other 0 ≡ slice_index_or made other 0
left_made true made caller other n h = get_or-set_other made caller other n 0 h
left_made false made caller other n h = refl

created_leaves : (store : Store) (caller other : ℕ) (kept : Attributes) (bytes : List ℕ) → (other ≡ caller → ⊥) → made_of (created store caller kept bytes).store other ≡ made_of store other
created_leaves store caller other kept bytes h = left_made (is_volatile kept) store.made caller other (made_of store caller + 1) h

pub leaves_callers : LeavesOtherCallers
leaves_callers service caller other request mark h =
    let left = λ (store : Store) (own : Own). other_own service store caller other own h in
    request_shape service caller (LeavesCaller service other) request mark (record {
      counted_too = λ own reply is quiet. (left (counted service.store) own, refl);
      created_too = λ own kept bytes is made. (left (created service.store caller kept bytes).store own, created_leaves service.store caller other kept bytes h);
      destroyed_too = λ own reply id is quiet on. (left (destroyed service.store id).store own, refl);
    })

-- a request draws few words of any caller
pub draws : DrawsFewWords
draws service caller other request mark =
    let few = λ (store : Store) (own : Own) (is : IsOwnAfter service caller request own). drawn_most 256 service store caller other own is.few in
    request_shape service caller (λ served. (own_of served.service other).drawn ≤ (own_of service other).drawn + 256) request mark (record {
      counted_too = λ own reply is quiet. few (counted service.store) own is;
      created_too = λ own kept bytes is made. few (created service.store caller kept bytes).store own is;
      destroyed_too = λ own reply id is quiet on. few (destroyed service.store id).store own is;
    })

-- OTHER HANDLES

left_handle : (service : Service) (store : Store) (caller other : ℕ) (request : Request) (own : Own) → (handle_of request ≡ Some other → ⊥) →
    (own.operations ≡ (own_of service caller).operations) ⊎ SetsOne service caller request own → operation_of (with_own service store caller own) caller other ≡ operation_of service caller other
left_handle service store caller other request own h (inl e) = operations_same service store caller own e caller other
left_handle service store caller other request own h (inr set) = other_handle service store caller set.handle other set.operation own set.sets (λ e. h (set.on ∙ ap Some (sym e)))

pub leaves_handles : LeavesOtherHandles
leaves_handles service caller other request mark h =
    let left = λ (store : Store) (own : Own) (is : IsOwnAfter service caller request own). left_handle service store caller other request own h is.operations in
    request_shape service caller (λ served. operation_of served.service caller other ≡ operation_of service caller other) request mark (record {
      counted_too = λ own reply is quiet. left (counted service.store) own is;
      created_too = λ own kept bytes is made. left (created service.store caller kept bytes).store own is;
      destroyed_too = λ own reply id is quiet on. left (destroyed service.store id).store own is;
    })

-- THE STORE

pub leaves_shared : LeavesShared
leaves_shared service caller request mark h = request_shape service caller (λ served. served.service.store ≡ counted service.store) request mark (record {
  counted_too = λ own reply is quiet. refl;
  created_too = λ own kept bytes is made. let clash = sym made.changes ∙ h in cc;
  destroyed_too = λ own reply id is quiet on. let clash = sym (ap may_change_keys on) ∙ h in cc;
})

-- what each request leaves of the store, and how it counts
record Kept (before after : Store) : Type 0 where
  settings : after.settings ≡ before.settings
  found : after.found ≡ before.found
  calls : after.calls ≡ before.calls + 1

serve_keeps : (service : Service) (caller : ℕ) (request : Request) (mark : FaultMark) → Kept service.store (serve service caller request mark).service.store
serve_keeps service caller request mark = request_shape service caller (λ served. Kept service.store served.service.store) request mark (record {
  counted_too = λ own reply is quiet. record { settings = refl; found = refl; calls = refl };
  created_too = λ own kept bytes is made. record { settings = refl; found = refl; calls = refl };
  destroyed_too = λ own reply id is quiet on. record { settings = refl; found = refl; calls = refl };
})

pub leaves_settings : LeavesSettings
leaves_settings service caller request mark = let kept = serve_keeps service caller request mark in (kept.settings, kept.found)

pub counts_once : CountsOnce
counts_once service caller request mark = (serve_keeps service caller request mark).calls
