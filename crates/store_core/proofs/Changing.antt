-- A ranked turn that changes keys.
use Rattle.store_core.proofs.Common.{[], AdmissionGhosts, after, Agrees, allowed_go_on, ap, AreHoldings, arith, cell_state, ChangesFreed, count_persistent, counted, counted_sound, Course, course_of, DevicesGhosts, DiskGhosts, doubt_after, durable_keys, Entry, false, FaultCounts, FaultMark, FitsCourse, FitsKeys, Free, go_on, HasFault, HasZeros, HaveFreed, Holds, HoldsKeys, inl, inr, is_destruction, is_persistent_key, is_some, IsCaused, IsDirectory, IsEntry, IsFreeSince, IsSoundStore, IsSure, IsTold, key_changed, KeyFile, KeySlots, last_counts, Leads, LeavesKeys, length-append, List, live_volatile, MayBeMarked, Model, None, opened, Opening, Option, outcome_of, Pairs, Plain, promise_goes_on, quiet, refl, replay, Service, slice_index, stands_fits, StandsFor, StandsForKeys, stays, Store, subst, sym, true, Within, ℕ, ⊎_elim, ⊤, ◌++◌, ◌+◌, ◌<◌, ◌∙◌, ◌∷◌, ◌≡◌, ◌≤◌, ◌⊎◌, cell_count}
use Rattle.store_core.proofs.{Histories.replay_push, Histories.counts_push, Histories.told_before, Histories.course_service, Histories.course_push, Histories.quiet_doubt, Holding.counts_of, Holding.same_device, Holding.same_directory, Holding.turned, Wiped.shows_free, Freeing.MovesFree, Freeing.freed_push, Freeing.frees, Freeing.unmoved}

-- what is told of one disk is told of another that tells as much
pub retold : (old new : Option (List ℕ)) (start : Service) (h : List Entry) → is_some new ≡ is_some old → IsTold new start h → IsTold old start h
retold old new start h same (inl tells) = inl (sym same ∙ tells)
retold old new start h same (inr none) = inr none

-- a ranked turn ends, of an opening that found as many keys, under the same rules
pub record IsRankedOn {D A C : Type 0} (old new : Store D A C) : Type 0 where
  pub rules : new.rules ≡ old.rules
  pub limits : new.limits ≡ old.limits
  pub found : new.found ≡ old.found
  pub ranked : new.ranked ≡ old.ranked + 1

module _ {D A C : Type 0} (disks : DiskGhosts D) (elements : DevicesGhosts A) (admits : AdmissionGhosts C) where
  -- what a ranked turn makes of a store, and of the model that it holds, where S holds of the service before it
  pub record Turns (S : Service → Type 0) (old new : Store D A C) (all : List Pairs) (e : Entry) (mark : FaultMark) (before : FaultCounts) (m m' : Model) : Type 0 where
    pub becomes : (service : Service) → S service → m ≡ service.store → m' ≡ (outcome_of service e).service.store
    pub sound : IsSoundStore m'
    pub counts : m' ≡ record (counted m) { keys = m'.keys; made = m'.made }
    pub goes_on : IsRankedOn old new
    pub places : elements.locations new.devices ≡ elements.locations old.devices
    pub made : m'.made ≡ new.made
    pub live : (caller : ℕ) → caller ≤ 16 → live_volatile m'.keys caller ≡ slice_index new.live caller
    pub kept : count_persistent m'.keys ≡ new.kept
    pub slots : Agrees new.slots.table.slots m' all
    pub holdings : AreHoldings all
    pub directory : IsDirectory new.file.cells.states m'
    pub device : HoldsKeys (elements.keys new.devices) m'
    pub tells : is_some (disks.contents new.file.cells.disk) ≡ is_some (disks.contents old.file.cells.disk)
    pub leads : (s : Course) → S s.service → m ≡ s.service.store → StandsForKeys disks old.file.cells.disk old.file.cells.states (durable_keys m) s.doubt →
        Leads disks old.file.cells.disk new.file.cells.disk old.file.cells.states new.file.cells.states (durable_keys m) s.doubt (durable_keys m') (doubt_after e s)
    pub frees : (service : Service) → S service → m ≡ service.store →
        MovesFree (is_persistent_key (key_changed service e.caller e.call)) (is_destruction e.call) mark old.file.cells.states new.file.cells.states
    -- where nothing is in doubt afterwards, no cell is
    pub settles : (s : Course) → S s.service → m ≡ s.service.store → (s.doubt ≡ [] → IsSure old.file.cells.states) → doubt_after e s ≡ [] → IsSure new.file.cells.states
    pub fault : HasFault (is_some (disks.contents new.file.cells.disk)) before e mark
    pub may : (service : Service) → S service → m ≡ service.store → MayBeMarked service e.caller e.call mark

  module _ (only_now : (disk : D) (image : List ℕ) → disks.left_since disk (disks.moment disk) image → disks.may_leave disk image)
      (S : Service → Type 0) (K : Type 0) (old new : Store D A C) (start : Service) (opening : Opening) (h : List Entry) (all more : List Pairs) (e : Entry) (mark : FaultMark) (m' : Model)
      (s : Holds disks elements admits K old start opening h all) (know : IsTold (disks.contents new.file.cells.disk) start (h ++ e ∷ []) → K)
      (holds_before : IsTold (disks.contents new.file.cells.disk) start (h ++ e ∷ []) → S (replay start h)) (t : Turns S old new more e mark (last_counts opening.counts h) s.model m') where
    abbrev m : Model
    m = s.model

    abbrev past : D
    past = old.file.cells.disk

    abbrev now : D
    now = new.file.cells.disk

    abbrev course : Course
    course = course_of start h

    abbrev Known : Type 0
    Known = IsTold (disks.contents now) start (h ++ e ∷ [])

    before : Known → IsTold (disks.contents past) start h
    before k = retold (disks.contents past) (disks.contents now) start h t.tells (told_before (disks.contents now) start h e k)

    tells_before : is_some (disks.contents now) ≡ true → is_some (disks.contents past) ≡ true
    tells_before is = sym t.tells ∙ is

    module _ (is : is_some (disks.contents now) ≡ true) where
      of_course : m ≡ course.service.store
      of_course = s.replayed (know (inl is)) ∙ ap (λ (x : Service). x.store) (sym (course_service start h))

      before_course : S course.service
      before_course = subst S (sym (course_service start h)) (holds_before (inl is))

      after_course : m' ≡ (after e course).service.store
      after_course = t.becomes course.service before_course of_course

      leads_here : Leads disks past now old.file.cells.states new.file.cells.states (durable_keys m) course.doubt (durable_keys m') (doubt_after e course)
      leads_here = t.leads course before_course of_course (s.file (tells_before is))

      fits_old : (image : List ℕ) → FitsKeys (durable_keys m) course.doubt image → FitsCourse course image
      fits_old image fits = subst (λ (x : Model). FitsKeys (durable_keys x) course.doubt image) of_course fits

      fits_new : (image : List ℕ) → FitsKeys (durable_keys m') (doubt_after e course) image → FitsCourse (after e course) image
      fits_new image fits = subst (λ (x : Model). FitsKeys (durable_keys x) (doubt_after e course) image) after_course fits

      within_here : Within (disks.moment past) (disks.moment now) (disks.left_since past) (disks.left_since now) (λ image. FitsCourse course image ⊎ FitsCourse (after e course) image)
      within_here = record {
        later = leads_here.within.later;
        each = λ at image le left. ⊎_elim (λ had. inl had) (λ fits. inr (⊎_elim (λ f. inl (fits_old image f)) (λ f. inr (fits_new image f)) fits)) (leads_here.within.each at image le left);
      }

      free_now : (cell : ℕ) → cell < cell_count → cell_state new.file.cells.states cell ≡ Free → (image : List ℕ) → disks.left_since now (disks.moment now) image → HasZeros cell image
      free_now cell lt free image left = shows_free _ _ _ _ free ((leads_here.stands.stands.each image (only_now now image left)).each cell lt)

      fits_now : (image : List ℕ) → disks.left_since now (disks.moment now) image → FitsCourse (after e course) image
      fits_now image left =
          fits_new image (stands_fits disks now new.file.cells.states (durable_keys m') (doubt_after e course) image leads_here.stands (only_now now image left))

    pub turns : IsEntry disks elements admits new mark e → (n : StandsFor disks elements admits new start opening (h ++ e ∷ []) more) × (n.holds.model ≡ m')
    turns is = (record { holds = holds; counts = counts_push opening.counts h e ∙ counted_here }, refl)
      where
        counted_here : counts_of e.faults e.device_faults ≡ counts_of (disks.faults now) (elements.faults new.devices)
        counted_here = ap (λ (n : ℕ). counts_of n e.device_faults) is.disk_faults ∙ ap (counts_of (disks.faults now)) is.device_faults

        freed_here : is_some (disks.contents now) ≡ true → HaveFreed (IsFreeSince disks now new.file.cells.states) start (h ++ e ∷ [])
        freed_here tells =
            let past_freed = s.freed (tells_before tells) in
            let service = replay start h in
            let then = frees disks past now old.file.cells.states new.file.cells.states (leads_here tells).zeros (free_now tells) (is_persistent_key (key_changed service e.caller e.call)) (is_destruction e.call) mark
            (t.frees service (holds_before (inl tells)) (s.replayed (know (inl tells)))) past_freed.0 past_freed.2 in (
              then.0,
              freed_push start h e [] past_freed.0 then.0 past_freed.1
                  (subst (λ (x : FaultMark). ChangesFreed (is_persistent_key (key_changed service e.caller e.call)) (is_destruction e.call) x e.done past_freed.0 then.0) (sym is.marked)
                  (subst (λ (n : ℕ). ChangesFreed (is_persistent_key (key_changed service e.caller e.call)) (is_destruction e.call) mark n past_freed.0 then.0) (sym is.done) then.1)),
              then.2,
            )

        holds : Holds disks elements admits Known new start opening (h ++ e ∷ []) more
        holds = record {
          model = m';
          replayed = λ k. t.becomes (replay start h) (holds_before k) (s.replayed (know k)) ∙ ap (λ (x : Service). x.store) (sym (replay_push start h e));
          sound = t.sound;
          settings = ap (λ (x : Model). x.settings) t.counts ∙ s.settings;
          limits_are = ap (λ (x : Model). x.settings.limits) t.counts ∙ (s.limits_are ∙ sym t.goes_on.limits);
          labels_are = ap (λ (x : Model). x.settings.labels) t.counts ∙ (s.labels_are ∙ sym (ap admits.labels t.goes_on.rules));
          locations_are = ap (λ (x : Model). x.settings.locations) t.counts ∙ (s.locations_are ∙ sym t.places);
          found = ap (λ (x : Model). x.found) t.counts ∙ (s.found ∙ sym t.goes_on.found);
          few = subst (λ n. n ≤ cell_count) (sym t.goes_on.found) s.few;
          calls = ap (λ (x : Model). x.calls) t.counts ∙ (ap (λ n. n + 1) s.calls ∙ sym t.goes_on.ranked);
          made = t.made;
          live = t.live;
          kept = t.kept;
          ranked = omega (arith, s.ranked, t.goes_on.ranked, length-append {A = Entry} h (e ∷ []));
          slots = t.slots;
          holdings = t.holdings;
          directory = t.directory;
          device = t.device;
          file = λ tells. subst (StandsForKeys disks now new.file.cells.states (durable_keys m')) (sym (ap (λ (c : Course). c.doubt) (course_push start h e))) (leads_here tells).stands;
          sure = λ tells none. t.settles course (before_course tells) (of_course tells) (s.sure (tells_before tells)) (sym (ap (λ (c : Course). c.doubt) (course_push start h e)) ∙ none);
          promise = λ tells. promise_goes_on after FitsCourse (opened start) (λ (x : Entry). x.done) (disks.left_since past) (disks.left_since now) (disks.moment past) (disks.moment now) opening.moment h e (s.promise (tells_before tells))
              (within_here tells) (fits_now tells) is.done;
          freed = freed_here;
          caused = go_on (is_some (disks.contents now)) opening.counts h e (subst (λ b. IsCaused b opening.counts h) (sym t.tells) s.caused)
              (subst (HasFault (is_some (disks.contents now)) (last_counts opening.counts h) e) (sym is.marked) t.fault);
          allowed = λ k. allowed_go_on start h e (s.allowed (before k)) (subst (MayBeMarked (replay start h) e.caller e.call) (sym is.marked) (t.may (replay start h) (holds_before k) (s.replayed (know k))));
        }

  -- a turn of a store that stands for something, whatever the service before it is
  module _ (only_now : (disk : D) (image : List ℕ) → disks.left_since disk (disks.moment disk) image → disks.may_leave disk image)
      (old new : Store D A C) (start : Service) (opening : Opening) (h : List Entry) (all more : List Pairs) (e : Entry) (mark : FaultMark) (m' : Model)
      (s : StandsFor disks elements admits old start opening h all) where
    pub turns_standing : Turns (λ service. ⊤) old new more e mark (counts_of (disks.faults old.file.cells.disk) (elements.faults old.devices)) s.holds.model m' →
        IsEntry disks elements admits new mark e → StandsFor disks elements admits new start opening (h ++ e ∷ []) more
    turns_standing t is =
        (turns only_now (λ service. ⊤) (IsTold (disks.contents old.file.cells.disk) start h) old new start opening h all more e mark m' s.holds
        (λ k. retold (disks.contents old.file.cells.disk) (disks.contents new.file.cells.disk) start h t.tells (told_before (disks.contents new.file.cells.disk) start h e k)) (λ k. tt)
        (subst (λ (c : FaultCounts). Turns (λ service. ⊤) old new more e mark c s.holds.model m') (sym s.counts) t) is).0

module _ {D A C : Type 0} (disks : DiskGhosts D) (elements : DevicesGhosts A) (admits : AdmissionGhosts C)
    (only_now : (disk : D) (image : List ℕ) → disks.left_since disk (disks.moment disk) image → disks.may_leave disk image)
    {old : Store D A C} {start : Service} {opening : Opening} {h : List Entry} {all : List Pairs} (e : Entry) where
  -- a turn that changes no key
  module _ {more : List Pairs} {K : Type 0} (S : Service → Type 0) (mark : FaultMark) (slots : KeySlots) (devices : A)
      (s : Holds disks elements admits K old start opening h all) (know : IsTold (disks.contents old.file.cells.disk) start (h ++ e ∷ []) → K)
      (holds_before : IsTold (disks.contents old.file.cells.disk) start (h ++ e ∷ []) → S (replay start h)) (counts : (service : Service) → S service → (outcome_of service e).service.store ≡ counted service.store)
      (agrees : Agrees slots.table.slots s.model more) (holdings : AreHoldings more) (places : elements.locations devices ≡ elements.locations old.devices) (device : HoldsKeys (elements.keys devices) (counted s.model))
      (fault : HasFault (is_some (disks.contents old.file.cells.disk)) (last_counts opening.counts h) e mark) (may : (service : Service) → S service → s.model ≡ service.store → MayBeMarked service e.caller e.call mark) where
    abbrev pub ended : KeyFile D → Store D A C
    ended file = record old { file = file; slots = slots; devices = devices; ranked = old.ranked + 1 }

    pub unmade : (file : KeyFile D) → IsDirectory file.cells.states s.model → is_some (disks.contents file.cells.disk) ≡ is_some (disks.contents old.file.cells.disk) →
        ((c : Course) → S c.service → s.model ≡ c.service.store → StandsForKeys disks old.file.cells.disk old.file.cells.states (durable_keys s.model) c.doubt →
        Leads disks old.file.cells.disk file.cells.disk old.file.cells.states file.cells.states (durable_keys s.model) c.doubt (durable_keys s.model) (doubt_after e c)) →
        ((c : Course) → S c.service → s.model ≡ c.service.store → (c.doubt ≡ [] → IsSure old.file.cells.states) → doubt_after e c ≡ [] → IsSure file.cells.states) →
        ((service : Service) → S service → s.model ≡ service.store → MovesFree (is_persistent_key (key_changed service e.caller e.call)) (is_destruction e.call) mark old.file.cells.states file.cells.states) →
        IsEntry disks elements admits (ended file) mark e → (n : StandsFor disks elements admits (ended file) start opening (h ++ e ∷ []) more) × (n.holds.model ≡ counted s.model)
    unmade file directory tells leads settles frees is =
        let told = retold (disks.contents old.file.cells.disk) (disks.contents file.cells.disk) start (h ++ e ∷ []) tells in
        turns disks elements admits only_now S K old (ended file) start opening h all more e mark (counted s.model) s (λ k. know (told k)) (λ k. holds_before (told k)) (record {
          becomes = λ service known at. ap counted at ∙ sym (counts service known);
          sound = counted_sound s.model s.sound;
          counts = refl;
          goes_on = record { rules = refl; limits = refl; found = refl; ranked = refl };
          places = places;
          made = s.made;
          live = s.live;
          kept = s.kept;
          slots = quiet slots.table.slots s.model (counted s.model) more agrees (record { keys = refl; given = omega arith });
          holdings = holdings;
          directory = same_directory file.cells.states s.model directory;
          device = device;
          tells = tells;
          leads = leads;
          frees = frees;
          settles = settles;
          fault = subst (λ b. HasFault b (last_counts opening.counts h) e mark) (sym tells) fault;
          may = may;
        }) is

    -- nor the file
    pub leaves : ((c : Course) → S c.service → doubt_after e c ≡ c.doubt) → ((service : Service) → S service → (is_persistent_key (key_changed service e.caller e.call) ≡ false) ⊎ (is_destruction e.call ≡ false)) →
        IsEntry disks elements admits (ended old.file) mark e → (n : StandsFor disks elements admits (ended old.file) start opening (h ++ e ∷ []) more) × (n.holds.model ≡ counted s.model)
    leaves doubts keeps = unmade old.file s.directory refl
        (λ c known at stands. subst (Leads disks old.file.cells.disk old.file.cells.disk old.file.cells.states old.file.cells.states (durable_keys s.model) c.doubt (durable_keys s.model)) (sym (doubts c known))
        (stays disks old.file.cells.disk old.file.cells.states (durable_keys s.model) (durable_keys s.model) c.doubt (λ q. refl) stands))
        (λ c known at sure none. sure (sym (doubts c known) ∙ none))
        (λ service known at. unmoved (is_persistent_key (key_changed service e.caller e.call)) (is_destruction e.call) mark old.file.cells.states (keeps service known))

  -- one whose request leaves all keys
  pub ends_quiet : {more : List Pairs} {K : Type 0} (mark : FaultMark) (slots : KeySlots) (s : Holds disks elements admits K old start opening h all) → (IsTold (disks.contents old.file.cells.disk) start (h ++ e ∷ []) → K) →
      Agrees slots.table.slots s.model more → AreHoldings more → HasFault (is_some (disks.contents old.file.cells.disk)) (last_counts opening.counts h) e mark →
      (IsTold (disks.contents old.file.cells.disk) start (h ++ e ∷ []) → MayBeMarked (replay start h) e.caller e.call mark) → LeavesKeys disks elements admits old start h e → IsEntry disks elements admits (turned disks elements admits old slots) mark e →
      (n : StandsFor disks elements admits (turned disks elements admits old slots) start opening (h ++ e ∷ []) more) × (n.holds.model ≡ counted s.model)
  ends_quiet mark slots s know agrees holdings fault may still =
      leaves (λ service. (service ≡ replay start h) × IsTold (disks.contents old.file.cells.disk) start (h ++ e ∷ [])) mark slots old.devices s know (λ k. (refl, k))
      (λ service known. subst (λ (x : Service). (outcome_of x e).service.store ≡ counted x.store) (sym known.0) (still.counted_only known.1)) agrees holdings refl (same_device (elements.keys old.devices) s.model s.device) fault
      (λ service known at. subst (λ (x : Service). MayBeMarked x e.caller e.call mark) (sym known.0) (may known.1))
      (λ c known. quiet_doubt e c (subst (λ (x : Service). key_changed x e.caller e.call ≡ None) (sym known.0) (still.changes_none known.1)))
      (λ service known. inl (ap is_persistent_key (subst (λ (x : Service). key_changed x e.caller e.call ≡ None) (sym known.0) (still.changes_none known.1))))

  -- and leaves the file, of a store that stands for something
  pub counts_on : (s : StandsFor disks elements admits old start opening h all) (slots : KeySlots) → Agrees slots.table.slots s.holds.model all → LeavesKeys disks elements admits old start h e → IsEntry disks elements admits (turned disks elements admits old slots) Plain e →
      (n : StandsFor disks elements admits (turned disks elements admits old slots) start opening (h ++ e ∷ []) all) × (n.holds.model ≡ counted s.holds.model)
  counts_on s slots agrees still = ends_quiet Plain slots s.holds (told_before (disks.contents old.file.cells.disk) start h e) agrees s.holds.holdings tt (λ k. tt) still
