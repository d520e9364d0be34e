-- Where the mark of a call may stand, by what its turn decided.
use Rattle.callers.proofs.Common.{Attributes, Copy, Destroy, FaultMark, IsRefused, IsUncopied, IsUndestroyed, IsUnmade, Key, List, NotCopied, NotDestroyed, NotMade, Ok, OnStore, Option, Plain, Reply, Request, Result, Service, Some, Status, Store, ap, asks_device, bytes_of_key, cond, created, created_unless, false, false≢true, id_read, is_destruction, is_opaque_key, mark_of, mark_uncopied, mark_undestroyed, mark_unmade, not, plain_step, refl, status_of, subst, sym, there_rows, ℕ, ◌∙◌, ◌≡◌}
use Rattle.std.specs.FinMap as map
use Rattle.std.specs.{Prelude.◌||◌, Option.option_and_then}
use Rattle.psa_status.specs.declared.Status.TheVariants as status
use Rattle.store_model.specs.{Prelude.MayBeMarked, Prelude.is_persistent_key, Prelude.key_answered, Prelude.key_changed, Creation.new_id, Creation.new_key}
use Rattle.store_core.specs.declared.copying.NotCopied.TheVariants as uncopied
use Rattle.store_core.specs.declared.creating.NotMade.TheVariants as unmade
use Rattle.store_core.specs.declared.creating.Unkept.TheVariants as unkept
use Rattle.store_core.specs.declared.destroying.NotDestroyed.TheVariants as undestroyed
use Rattle.store_model.proofs.Sound.{put}
use Rattle.std.proofs.Common.{eq-eqb}
use Rattle.store_core.specs.Prelude.{RecordsCopy}

pub plain_may : (service : Service) (caller : ℕ) (request : Request) {mark : FaultMark} → mark ≡ Plain → MayBeMarked service caller request mark
plain_may service caller request plain = subst (MayBeMarked service caller request) (sym plain) tt

-- a look that the file refused
pub read_marked : (service : Service) (caller : ℕ) (request : Request) (rows : Option Key → Option Status) (id : ℕ) (why : Status) (m : Store) → map.get service.store.keys id ≡ map.get m.keys id → id_read service caller request ≡ Some id →
    IsRefused rows id why m → MayBeMarked service caller request (mark_of why)
read_marked service caller request rows id status.StorageFailure m same reads is =
    ap (λ o. is_persistent_key (option_and_then (map.get service.store.keys) o)) reads ∙ (ap is_persistent_key same ∙ is)
read_marked service caller request rows id status.DataCorrupt m same reads is =
    ap (λ o. is_persistent_key (option_and_then (map.get service.store.keys) o)) reads ∙ (ap is_persistent_key same ∙ is)
read_marked service caller request rows id why m same reads is = tt

pub undestroyed_marked : (service : Service) (caller id : ℕ) (why : NotDestroyed) → IsUndestroyed id why service.store → MayBeMarked service caller (OnStore (Destroy id)) (mark_undestroyed why)
undestroyed_marked service caller id undestroyed.Missing is = tt
undestroyed_marked service caller id (undestroyed.Disk closed_first) is = is
undestroyed_marked service caller id undestroyed.Hardware is = ap (λ b. b || asks_device service caller (OnStore (Destroy id))) is

-- what a request that destroys no key changes is what it answers
answered_key : (service : Service) (caller : ℕ) (request : Request) → is_destruction request ≡ false →
    key_changed service caller request ≡ key_answered (plain_step service caller request).service.store (plain_step service caller request).reply.output
answered_key service caller (OnStore (Destroy id)) keeps = absurd (false≢true (sym keeps))
answered_key service caller request keeps = refl

-- a request that makes a key where no device fails
module _ (service : Service) (caller : ℕ) (request : Request) (keeps : is_destruction request ≡ false) (records : Store → Result Attributes Status → Type 0) (bytes : List ℕ)
    (leaves : (recorded : Attributes) → records service.store (Ok recorded) → (plain_step service caller request).service.store ≡ (created service.store caller recorded bytes).store)
    (answers : (recorded : Attributes) → records service.store (Ok recorded) → (plain_step service caller request).reply ≡ (created service.store caller recorded bytes).reply) where
  abbrev id_of : Attributes → ℕ
  id_of recorded = new_id service.store caller recorded

  abbrev new_of : Attributes → Key
  new_of recorded = new_key service.store caller (id_of recorded) recorded bytes

  changes : (recorded : Attributes) → records service.store (Ok recorded) → key_changed service caller request ≡ Some (new_of recorded)
  changes recorded is =
      answered_key service caller request keeps ∙ (ap (λ (m : Store). key_answered m (plain_step service caller request).reply.output) (leaves recorded is)
      ∙ (ap (λ (r : Reply). key_answered (created service.store caller recorded bytes).store r.output) (answers recorded is)
      ∙ (put service.store.keys (id_of recorded) (new_of recorded) (id_of recorded)
      ∙ ap (λ b. cond b (Some (new_of recorded)) (map.get service.store.keys (id_of recorded))) (eq-eqb (id_of recorded) (id_of recorded) refl))))

  pub unmade_marked : (why : NotMade) → IsUnmade records why service.store → MayBeMarked service caller request (mark_unmade why)
  unmade_marked (unmade.Refused s) is = tt
  unmade_marked (unmade.Failed (unkept.Unwritten closed_first)) is = ap is_persistent_key (changes is.0 is.1) ∙ ap not is.2
  unmade_marked (unmade.Failed unkept.Hardware) is = ap (λ b. b || asks_device service caller request) (ap is_opaque_key (changes is.0 is.1) ∙ is.2)

-- a copy whose source could not be read, or that was not made
pub uncopied_marked : (service : Service) (caller source : ℕ) (stated : Attributes) (why : NotCopied) → IsUncopied (RecordsCopy caller source stated) source why service.store →
    MayBeMarked service caller (OnStore (Copy source stated)) (mark_uncopied why)
uncopied_marked service caller source stated (uncopied.Unread why) is = read_marked service caller (OnStore (Copy source stated)) there_rows source (status_of why) service.store refl refl is
uncopied_marked service caller source stated (uncopied.NotMade why) is =
    let bytes : List ℕ = bytes_of_key (map.get service.store.keys source) in
    unmade_marked service caller (OnStore (Copy source stated)) refl (RecordsCopy caller source stated) bytes
    (λ recorded is. ap (λ o. (created_unless service.store caller o bytes).store) (sym is)) (λ recorded is. ap (λ o. (created_unless service.store caller o bytes).reply) (sym is)) why is
