-- A history with one more entry.
use Rattle.store_core.proofs.Common.{[], AdmissionGhosts, after, after_all, after_all_push, ap, Bool, counted, Course, course_of, decided, Destroy, destroy_rows, destroyed, DevicesGhosts, DiskGhosts, doubt_after, doubt_by, Entry, false, false≢true, FaultCounts, FaultMark, first_row, FitsCourse, inl, inr, InvalidHandle, is_destruction, IsTold, kept, Key, key_changed, last_counts, LeavesKeys, List, map_get, may_change_keys, next_random, None, not, OnHandle, OnStore, opened, Option, option_map_or, outcome_of, own_of, Plain, plain_step, reads_persistent, ReadsNone, refl, replay, Reply, Request, serve, Service, Some, Stored, subst, Success, sym, true, ℕ, ◌&&◌, ◌++◌, ◌==◌, ◌∙◌, ◌∷◌, ◌≡◌}
use Rattle.store_model.specs.Prelude.{Store}
use Rattle.store_model.proofs.{DrawnBytes.length-random, StoreShape.MakesNone, StoreShape.store_shape, Shape.shape, Others.leaves_shared, LeftAll.leaves_all}
use Rattle.store_core.specs.declared.store.Store as core

pub replay_push : (service : Service) (h : List Entry) (e : Entry) → replay service (h ++ e ∷ []) ≡ (outcome_of (replay service h) e).service
replay_push service [] e = refl
replay_push service (first ∷ h) e = replay_push (outcome_of service first).service h e

pub counts_push : (before : FaultCounts) (h : List Entry) (e : Entry) → last_counts before (h ++ e ∷ []) ≡ record { faults = e.faults; device_faults = e.device_faults }
counts_push before [] e = refl
counts_push before (first ∷ h) e = counts_push (record { faults = first.faults; device_faults = first.device_faults }) h e

-- WHAT IS TOLD

reads_before : (service : Service) (h : List Entry) (e : Entry) → ReadsNone service (h ++ e ∷ []) → ReadsNone service h
reads_before service [] e none = tt
reads_before service (first ∷ h) e none = (none.0, reads_before (outcome_of service first).service h e none.1)

pub reads_last : (service : Service) (h : List Entry) (e : Entry) → ReadsNone service (h ++ e ∷ []) → reads_persistent (replay service h) e.caller e.call ≡ false
reads_last service [] e none = none.0
reads_last service (first ∷ h) e none = reads_last (outcome_of service first).service h e none.1

pub told_before : (told : Option (List ℕ)) (start : Service) (h : List Entry) (e : Entry) → IsTold told start (h ++ e ∷ []) → IsTold told start h
told_before told start h e (inl tells) = inl tells
told_before told start h e (inr none) = inr (reads_before start h e none)

-- THE COURSE

course_from : (s : Course) (h : List Entry) → (after_all after h s).service ≡ replay s.service h
course_from s [] = refl
course_from s (e ∷ h) = course_from (after e s) h

pub course_service : (start : Service) (h : List Entry) → (course_of start h).service ≡ replay start h
course_service start h = course_from (opened start) h

quiet_reply : (service : Service) (caller : ℕ) (request : Request) → may_change_keys request ≡ false → MakesNone (plain_step service caller request).reply
quiet_reply service caller (OnStore call) quiet =
    store_shape service.store caller (next_random service caller) call (λ outcome. MakesNone outcome.reply) (λ n. length-random service.store.settings.seed caller (own_of service caller).drawn n) (record {
      counted_too = λ reply drawn is. is.quiet.no_key;
      created_too = λ kept bytes drawn changes creates. absurd (false≢true (sym quiet ∙ changes));
      destroyed_too = λ id is. absurd (false≢true (sym quiet ∙ ap may_change_keys is));
    })
quiet_reply service caller (OnHandle handle call) quiet = shape service caller handle call (λ served. MakesNone served.reply) (record {
  untouched_too = λ may. λ after. refl;
  applied_too = λ after step. step.no_key;
  created_too = λ changes key w n kept derives. absurd (false≢true (sym quiet ∙ changes));
})

-- a request that may change no key changes none
changes_none : (service : Service) (caller : ℕ) (request : Request) → may_change_keys request ≡ false → key_changed service caller request ≡ None
changes_none service caller (OnStore (Destroy id)) quiet = absurd (false≢true (sym quiet))
changes_none service caller request quiet = quiet_reply service caller request quiet (plain_step service caller request).service.store

-- one that changes none leaves the doubt
pub quiet_doubt : (e : Entry) (s : Course) → key_changed s.service e.caller e.call ≡ None → doubt_after e s ≡ s.doubt
quiet_doubt e s none = ap (λ (o : Option Key). option_map_or (λ (key : Stored). doubt_by e.mark (is_destruction e.call) key s.doubt) (kept o) s.doubt) none

pub course_push : (start : Service) (h : List Entry) (e : Entry) → course_of start (h ++ e ∷ []) ≡ after e (course_of start h)
course_push start h e = after_all_push after FitsCourse (opened start) h e (opened start)

-- REFUSALS

abbrev IsRefusal : Reply → Type 0
IsRefusal reply = reply.status ≡ Success → ⊥

refused_reply : (service : Service) (caller : ℕ) (request : Request) → IsRefusal (plain_step service caller request).reply → MakesNone (plain_step service caller request).reply
refused_reply service caller (OnStore call) =
    store_shape service.store caller (next_random service caller) call (λ outcome. IsRefusal outcome.reply → MakesNone outcome.reply) (λ n. length-random service.store.settings.seed caller (own_of service caller).drawn n) (record {
      counted_too = λ reply drawn is fails. is.quiet.no_key;
      created_too = λ kept bytes drawn changes creates fails. absurd (fails refl);
      destroyed_too = λ id is fails. absurd (fails refl);
    })
refused_reply service caller (OnHandle handle call) = shape service caller handle call (λ served. IsRefusal served.reply → MakesNone served.reply) (record {
  untouched_too = λ may fails. λ after. refl;
  applied_too = λ after step fails. step.no_key;
  created_too = λ changes key w n kept derives fails. absurd (fails refl);
})

-- where a destruction is refused there is no key
undestroyed : (store : Store) (id : ℕ) (found : Option Key) → IsRefusal (decided store (first_row (destroy_rows found id)) (destroyed store id)).reply → found ≡ None
undestroyed store id None fails = refl
undestroyed store id (Some key) fails = absurd (fails (granted (not (id == 0)))) where
  granted : (b : Bool) → (decided store (first_row ((b && false, InvalidHandle) ∷ [])) (destroyed store id)).reply.status ≡ Success
  granted true = refl
  granted false = refl

-- a refused request changes no key
refused_changes : (service : Service) (caller : ℕ) (request : Request) → IsRefusal (plain_step service caller request).reply → key_changed service caller request ≡ None
refused_changes service caller (OnStore (Destroy id)) fails = undestroyed service.store id (map_get service.store.keys id) fails
refused_changes service caller request fails = refused_reply service caller request fails (plain_step service caller request).service.store

-- and leaves the store but for the count
refused_counts : (service : Service) (caller : ℕ) (request : Request) → IsRefusal (plain_step service caller request).reply → (plain_step service caller request).service.store ≡ counted service.store
refused_counts service caller (OnStore call) fails = ap (λ (s : Service). s.store) (leaves_all service caller (OnStore call) fails)
refused_counts service caller (OnHandle handle call) fails = ap (λ (s : Service). s.store) (leaves_all service caller (OnHandle handle call) fails)

-- REQUESTS THAT LEAVE ALL KEYS

module _ {D A C : Type 0} (disks : DiskGhosts D) (elements : DevicesGhosts A) (admits : AdmissionGhosts C) (store : core.Store D A C) (start : Service) (h : List Entry) (e : Entry) where
  abbrev Leaves : Type 0
  Leaves = LeavesKeys disks elements admits store start h e

  -- one that may change no key
  pub quiet_leaves : may_change_keys e.call ≡ false → Leaves
  quiet_leaves quiet = record {
    counted_only = λ t. leaves_shared (replay start h) e.caller e.call e.mark quiet;
    changes_none = λ t. changes_none (replay start h) e.caller e.call quiet;
  }

  -- and one that is refused though no device failed
  pub refused_leaves : e.mark ≡ Plain → (IsTold (disks.contents store.file.cells.disk) start (h ++ e ∷ []) → IsRefusal (plain_step (replay start h) e.caller e.call).reply) → Leaves
  refused_leaves plain refused = record {
    counted_only = λ t.
        subst (λ (mark : FaultMark). (serve (replay start h) e.caller e.call mark).service.store ≡ counted (replay start h).store) (sym plain) (refused_counts (replay start h) e.caller e.call (refused t));
    changes_none = λ t. refused_changes (replay start h) e.caller e.call (refused t);
  }
