-- What the one-thread service makes of a call that creates a key of derived bytes.
use Rattle.callers.proofs.Common.{Active, Attributes, DerivationWork, Deriving, Err, HandleOperation, HasNumber, InError, IsMade, IsSound, IsSoundOperation, IsUnmade, KeyCreation, List, None, NotMade, Ok, OnHandle, Option, OutputKey, Own, Plain, Reading, RecordsStated, Result, Served, Service, Some, Status, Store, ap, applied, by_number, counted, created, created_unless, derivation_part, derived_key, fails, handle_step, has_live_key, held_after, inl, inr, is_alive, key_of_operation, length, mark_unmade, min, next_derived, operation_of, output_key_refusal, outputs, own_of, part_of, recorded_of, recorded_refused, refl, refusal, rekeyed, serve, spoiled, stated_bytes, status_unmade, subst, sym, true, underived, with_operation, with_own, without, ℕ, ◌∙◌, ◌≡◌, ◌≤◌, ◌⊎◌}
use Rattle.psa_status.specs.declared.Status.TheVariants as status
use Rattle.store_core.specs.declared.creating.NotMade.TheVariants as unmade
use Rattle.store_core.specs.declared.creating.Unkept.TheVariants as unkept
use Rattle.store_model.specs.Prelude.{MayBeMarked}
use Rattle.callers.proofs.{KeySizes.few_recorded, KeySizes.front_recorded, Marked.unmade_marked, Rekeying.LivesBy, Rekeying.chosen, Rekeying.no_test, Rekeying.part_rekeyed, SettingUp.undrawn_own}

-- a lease, where there is one, is of the operation's key
abbrev pub IsLeaseOf : Option Reading → Option KeyCreation → Type 0
IsLeaseOf None key = key ≡ None
IsLeaseOf (Some l) key = (creation : KeyCreation) × (key ≡ Some creation) × (creation.number ≡ l.creation)

-- and that is there exactly where the lease's number is
abbrev pub LivesAs : Option Reading → Store → Option KeyCreation → Type 0
LivesAs None m key = key ≡ None
LivesAs (Some l) m key = LivesBy m l key

pub lease_lives : (service : Service) → IsSound service → (caller handle : ℕ) (lease : Option Reading) → IsLeaseOf lease (key_of_operation (operation_of service caller handle)) → LivesAs lease service.store (key_of_operation (operation_of service caller handle))
lease_lives service sound caller handle None none = none
lease_lives service sound caller handle (Some l) held = let numbers = by_number service sound caller handle held.0 held.1 in record {
  has = λ alive. subst (HasNumber service.store) held.2 (numbers.0 (sym (ap (is_alive service.store) held.1) ∙ alive));
  lives = λ has. ap (is_alive service.store) held.1 ∙ numbers.1 (subst (HasNumber service.store) (sym held.2) has);
}

-- what a store tells of a lease's number
abbrev pub TellsOf : Option Reading → Store → Type 0
TellsOf None m = Unit {0}
TellsOf (Some l) m = (HasNumber m l.creation) ⊎ (HasNumber m l.creation → ⊥)

tells_of : (lease : Option Reading) (caller : ℕ) (a : Attributes) (n : ℕ) (m : Store) (kept : Result Attributes Status) → RecordsStated lease caller a n m kept → TellsOf lease m
tells_of None caller a n m kept records = tt
tells_of (Some l) caller a n m kept (inl there) = inl there.0
tells_of (Some l) caller a n m kept (inr gone) = inr gone.0

pub made_tells : (lease : Option Reading) (caller : ℕ) (a : Attributes) (n id : ℕ) (m : Store) → IsMade (RecordsStated lease caller a n) caller id m → TellsOf lease m
made_tells lease caller a n id m made = tells_of lease caller a n m (Ok made.0) made.1

pub unmade_tells : (lease : Option Reading) (caller : ℕ) (a : Attributes) (n : ℕ) (m : Store) (why : NotMade) → IsUnmade (RecordsStated lease caller a n) why m → TellsOf lease m
unmade_tells lease caller a n m (unmade.Refused status) is = tells_of lease caller a n m (Err status) is
unmade_tells lease caller a n m (unmade.Failed why) is = tells_of lease caller a n m (Ok is.0) is.1

-- a derivation's operation with the key of that number
pub record IsOneFor (m : Store) (lease : Option Reading) (o other : HandleOperation) : Type 0 where
  pub part : part_of derivation_part o ≡ part_of derivation_part other
  pub lives : LivesAs lease m (key_of_operation o)

pub one_for : (m : Store) (o : HandleOperation) (lease : Option Reading) → IsLeaseOf lease (key_of_operation o) → TellsOf lease m → (other : HandleOperation) × (IsSoundOperation m o → other ≡ o) × IsOneFor m lease other o
one_for m o None none tells = (o, (λ sound. refl), record { part = refl; lives = none })
one_for m o (Some l) held tells =
    let x = chosen m o l held.0 held.1 held.2 tells in (rekeyed x.0 o, x.1, record { part = part_rekeyed derivation_part x.0 o; lives = x.2 })

module _ (service : Service) (caller handle : ℕ) (a : Attributes) (w : DerivationWork) (derives : part_of derivation_part (operation_of service caller handle) ≡ Active w)
    (passes : output_key_refusal (part_of derivation_part (operation_of service caller handle)) a ≡ None) (lease : Option Reading) (lives : LivesAs lease service.store (key_of_operation (operation_of service caller handle)))
    (bytes : List ℕ) (short : length bytes ≡ min (stated_bytes a) 1025) where
  abbrev Records : Result Attributes Status → Type 0
  Records = RecordsStated lease caller a (length bytes) service.store

  abbrev key : Option KeyCreation
  key = key_of_operation (operation_of service caller handle)

  abbrev Steps : Served → Type 0
  Steps served = handle_step service caller handle (OutputKey a) ≡ served

  abbrev derived_with : Result Attributes Status → Served
  derived_with kept = derived_key service caller handle key w (stated_bytes a) kept

  -- the creation is that of as many bytes as are stated
  as_stated : (kept : Result Attributes Status) → kept ≡ recorded_of service.store caller a (length bytes) → kept ≡ recorded_of service.store caller a (stated_bytes a)
  as_stated kept is = is ∙ (ap (recorded_of service.store caller a) short ∙ front_recorded service.store caller a (stated_bytes a))

  due : has_live_key service caller handle ≡ true → (kept : Result Attributes Status) → kept ≡ recorded_of service.store caller a (length bytes) → Steps (derived_with kept)
  due alive kept is = outputs.due service caller handle a w derives alive passes ∙ ap derived_with (sym (as_stated kept is))

  -- what is recorded is what the table of creations says, or the derivation's own key is gone
  pub record IsLost (kept : Result Attributes Status) : Type 0 where
    pub invalid : kept ≡ Err status.InvalidHandle
    pub steps : Steps (applied service caller handle (fails status.InvalidHandle))

  pub record IsDue (kept : Result Attributes Status) : Type 0 where
    pub recorded : kept ≡ recorded_of service.store caller a (stated_bytes a)
    pub steps : Steps (derived_with kept)

  found : (kept : Result Attributes Status) → Records kept → IsDue kept ⊎ IsLost kept
  found kept records = by lease lives records
    where
      by : (l : Option Reading) → LivesAs l service.store key → RecordsStated l caller a (length bytes) service.store kept → IsDue kept ⊎ IsLost kept
      by None none is = inl (record { recorded = as_stated kept is; steps = due (ap (is_alive service.store) none) kept is })
      by (Some l) held (inl there) = inl (record { recorded = as_stated kept there.1; steps = due (held.lives there.0) kept there.1 })
      by (Some l) held (inr gone) =
          inr (record { invalid = gone.1; steps = outputs.lost service caller handle a w derives (no_test (has_live_key service caller handle) (λ alive. gone.0 (held.has alive))) })

  -- no creation is refused as one that takes too many bytes
  fails_so : (why : Status) → recorded_of service.store caller a (stated_bytes a) ≡ Err why → underived w why ≡ fails why
  fails_so = recorded_refused (λ s. underived w s ≡ fails s) refl refl refl refl refl refl service.store caller a (stated_bytes a)

  pub derived_refused : (why : Status) → Records (Err why) → Steps (applied service caller handle (fails why))
  derived_refused why records = elim (found (Err why) records) [
    | inl d ↦ d.steps ∙ ap (λ after. applied service caller handle (held_after key Deriving after)) (fails_so why (sym d.recorded))
    | inr l ↦ let same : why ≡ status.InvalidHandle = cc in l.steps ∙ ap (λ s. applied service caller handle (fails s)) (sym same)
  ]

  pub derived_made : (kept : Attributes) → Records (Ok kept) → Steps (derived_with (Ok kept)) × (stated_bytes a ≤ 1024)
  derived_made kept records = elim (found (Ok kept) records) [
    | inl d ↦ (d.steps, few_recorded service.store caller a kept (stated_bytes a) (sym d.recorded))
    | inr l ↦ let clash : Ok kept ≡ Err status.InvalidHandle = l.invalid in cc
  ]

  -- THE CREATION

  module _ (front : stated_bytes a ≤ 1024 → bytes ≡ next_derived w (stated_bytes a)) where
    pub derived_leaves : (kept : Result Attributes Status) → Records kept → (handle_step service caller handle (OutputKey a)).service.store ≡ (created_unless service.store caller kept bytes).store
    derived_leaves (Ok kept) records =
        let made = derived_made kept records in ap (λ (s : Served). s.service.store) made.0 ∙ ap (λ derived. (created service.store caller kept derived).store) (sym (front made.1))
    derived_leaves (Err why) records = ap (λ (s : Served). s.service.store) (derived_refused why records)

    pub derived_replies : (kept : Result Attributes Status) → Records kept → (handle_step service caller handle (OutputKey a)).reply ≡ (created_unless service.store caller kept bytes).reply
    derived_replies (Ok kept) records =
        let made = derived_made kept records in ap (λ (s : Served). s.reply) made.0 ∙ ap (λ derived. (created service.store caller kept derived).reply) (sym (front made.1))
    derived_replies (Err why) records = ap (λ (s : Served). s.reply) (derived_refused why records)

  -- a device failed
  failed : (why : Status) → record { service = with_own service (counted service.store) caller (with_operation (own_of service caller) handle InError); reply = refusal why } ≡ applied service caller handle (fails why)
  failed why = ap (λ (own : Own). record { service = with_own service (counted service.store) caller own; reply = refusal why }) (undrawn_own (with_operation (own_of service caller) handle InError))

  pub underived_key : (why : NotMade) → IsUnmade (RecordsStated lease caller a (length bytes)) why service.store → serve service caller (OnHandle handle (OutputKey a)) (mark_unmade why) ≡ applied service caller handle (fails (status_unmade why))
  underived_key (unmade.Refused why) is = derived_refused why is
  underived_key (unmade.Failed (unkept.Unwritten closed_first)) is = failed status.StorageFailure
  underived_key (unmade.Failed unkept.Hardware) is =
      let none : (handle_step service caller handle (OutputKey a)).reply.needed ≡ 0 = ap (λ (s : Served). s.reply.needed) (derived_made is.0 is.1).0 in
      ap (λ n. record { service = with_own service (counted service.store) caller (with_operation (own_of service caller) handle InError); reply = spoiled status.HardwareFailure n }) none ∙ failed status.HardwareFailure

  pub underived_marked : (why : NotMade) → IsUnmade (RecordsStated lease caller a (length bytes)) why service.store → MayBeMarked service caller (OnHandle handle (OutputKey a)) (mark_unmade why)
  underived_marked = unmade_marked service caller (OnHandle handle (OutputKey a)) refl (RecordsStated lease caller a (length bytes)) (next_derived w (stated_bytes a))
      (λ kept records. ap (λ (s : Served). s.service.store) (derived_made kept records).0) (λ kept records. ap (λ (s : Served). s.reply) (derived_made kept records).0)

  -- the operation that is left where a key is made
  abbrev pub given_to : HandleOperation
  given_to = Active (record { key = key; work = Deriving (without w (stated_bytes a)) })

  pub made_owns : (kept : Attributes) → Records (Ok kept) →
      (serve service caller (OnHandle handle (OutputKey a)) Plain).service ≡ with_own service (created service.store caller kept (next_derived w (stated_bytes a))).store caller (with_operation (own_of service caller) handle given_to)
  made_owns kept records = ap (λ (s : Served). s.service) (derived_made kept records).0
