-- A store that holds keys, after a turn that leaves all.
use Rattle.store_core.proofs.Common.{AdmissionGhosts, after, Agrees, ap, AreHoldings, arith, Buffer, cell_state, counted, course_of, DevicesGhosts, DiskGhosts, Doubt, durable_keys, Entry, FaultCounts, fits_least, fits_whole, FitsCourse, FitsEitherKeys, FitsFrom, FitsKeys, HasModel, HeldKeys, Holds, HoldsKeys, inl, inr, is_some, IsCaused, IsDirectory, IsSure, IsTold, KeepsPromise, KeyFile, Keys, KeySlots, Leads, length, List, Model, opened, Opening, Option, Pairs, refl, Service, StandsFor, StandsForKeys, stays, Store, subst, sym, true, Within, ℕ, ⊎_elim, ◌+◌, ◌∙◌, ◌≡◌, ◌≤◌, ◌⊎◌}
use Rattle.store_core.proofs.{Freeing.all_still, Histories.course_service}

-- calls after which a crash leaves the keys of now keep the promise of the same history
pub promise_stays : (past since : ℕ → List ℕ → Type 0) (before now opening : ℕ) (start : Service) (h : List Entry) (P : List ℕ → Type 0) → KeepsPromise after FitsCourse (λ (e : Entry). e.done) past before opening (opened start) h →
    Within before now past since P → ((image : List ℕ) → P image → FitsCourse (course_of start h) image) → KeepsPromise after FitsCourse (λ (e : Entry). e.done) since now opening (opened start) h
promise_stays past since before now opening start h P p call here = record {
  opened = omega (arith, p.opened, call.later);
  entered = λ k lt. omega (arith, p.entered k lt, call.later);
  since_opening = λ image left. either 0 image (omega arith) (λ old. p.since_opening image old) (call.each opening image p.opened left);
  since_done = λ k lt image left. either (k + 1) image (omega arith) (λ old. p.since_done k lt image old) (call.each _ image (p.entered k lt) left);
} where
  either : {L : Type 0} (least : ℕ) (image : List ℕ) → least ≤ length h → (L → FitsFrom after FitsCourse (opened start) h least image) → (L ⊎ P image) → FitsFrom after FitsCourse (opened start) h least image
  either least image few old (inl left) = old left
  either least image few old (inr now) = fits_least after FitsCourse (opened start) h (length h) least image few (fits_whole after FitsCourse (opened start) h image (here image now))

abbrev pub counts_of : ℕ → ℕ → FaultCounts
counts_of n m = record { faults = n; device_faults = m }

-- the same keys as a directory and a device have them
pub same_directory : (slots : List _) (m : Model) → IsDirectory slots m → IsDirectory slots (counted m)
same_directory slots m d = record { sized = d.sized; there = d.there; only = d.only; one = d.one }

pub same_device : (held : Option HeldKeys) (m : Model) → HoldsKeys held m → HoldsKeys held (counted m)
same_device held m d = record { there = d.there; new = λ handle le. d.new handle (omega (arith, le)) }

module _ {D A C : Type 0} (disks : DiskGhosts D) (elements : DevicesGhosts A) (admits : AdmissionGhosts C) where
  -- a store after its file was read
  abbrev pub moved : Store D A C → KeyFile D → KeySlots → Buffer → Store D A C
  moved store file slots buffer = record store { file = file; slots = slots; buffer = buffer }

  -- and after a ranked turn
  abbrev pub turned : Store D A C → KeySlots → Store D A C
  turned store slots = record store { slots = slots; ranked = store.ranked + 1 }

  -- a file that was read, or left alone
  pub record IsReadOn (old new : KeyFile D) : Type 0 where
    pub same : disks.contents new.cells.disk ≡ disks.contents old.cells.disk
    pub slots : new.cells.states ≡ old.cells.states
    pub keeps : (keys : Keys) (doubt : Doubt) → StandsForKeys disks old.cells.disk old.cells.states keys doubt →
        Leads disks old.cells.disk new.cells.disk old.cells.states new.cells.states keys doubt keys doubt

  pub left_alone : (file : KeyFile D) → IsReadOn file file
  left_alone file = record {
    same = refl;
    slots = refl;
    keeps = λ keys doubt s. stays disks file.cells.disk file.cells.states keys keys doubt (λ id. refl) s;
  }

  -- the model of a store
  pub has_model : {K K' : Type 0} {store : Store D A C} {start : Service} {opening : Opening} {h : List Entry} {all : List Pairs} {P : Model → Type 0} (n : Holds disks elements admits K store start opening h all) → (K' → K) → P n.model → HasModel K' start h P
  has_model n known is = record { model = n.model; replayed = λ k. n.replayed (known k); sound = n.sound; settings = n.settings; calls = n.calls ∙ n.ranked; holds = is }

  -- No key changes, and no entry is added: the file was read, the slots have these holdings, and a device has what it had.
  pub carries : {K : Type 0} {old : Store D A C} {start : Service} {opening : Opening} {h : List Entry} {all more : List Pairs} (K' : Type 0) (file : KeyFile D) (slots : KeySlots) (buffer : Buffer) (devices : A) → IsReadOn old.file file →
      elements.keys devices ≡ elements.keys old.devices → elements.locations devices ≡ elements.locations old.devices → (s : Holds disks elements admits K old start opening h all) → (is_some (disks.contents old.file.cells.disk) ≡ true → K) → (K' → K) →
      Agrees slots.table.slots s.model more → AreHoldings more → (n : Holds disks elements admits K' (record old { file = file; slots = slots; buffer = buffer; devices = devices }) start opening h more) × (n.model ≡ s.model)
  carries {K} {old} {start} {opening} {h} K' file slots buffer devices read keys places s told known agrees holdings = (
    record {
      model = s.model;
      replayed = λ k. s.replayed (known k);
      sound = s.sound;
      settings = s.settings;
      labels_are = s.labels_are;
      limits_are = s.limits_are;
      locations_are = s.locations_are ∙ sym places;
      found = s.found;
      few = s.few;
      calls = s.calls;
      made = s.made;
      live = s.live;
      kept = s.kept;
      ranked = s.ranked;
      slots = agrees;
      holdings = holdings;
      directory = subst (λ (c : _). IsDirectory c s.model) (sym read.slots) s.directory;
      device = subst (λ (held : Option HeldKeys). HoldsKeys held s.model) (sym keys) s.device;
      file = λ is. (leads is).stands;
      sure = λ is none. subst (λ (c : _). IsSure c) (sym read.slots) (s.sure (before is) none);
      promise = λ is. promise_stays (disks.left_since old.file.cells.disk) (disks.left_since file.cells.disk) (disks.moment old.file.cells.disk) (disks.moment file.cells.disk) opening.moment start h
          (FitsEitherKeys (durable_keys s.model) (course_of start h).doubt (durable_keys s.model) (course_of start h).doubt) (s.promise (before is)) (leads is).within
          (λ image fits. subst (λ (x : Model). FitsKeys (durable_keys x) (course_of start h).doubt image) (s.replayed (told (before is)) ∙ ap (λ (x : Service). x.store) (sym (course_service start h))) (⊎_elim (λ f. f) (λ f. f) fits));
      freed = λ is. let f = s.freed (before is) in
          (f.0, f.1, all_still disks old.file.cells.disk file.cells.disk old.file.cells.states file.cells.states (leads is).zeros (λ cell lt free. ap (λ (c : _). cell_state c cell) read.slots ∙ free) f.0 f.2);
      caused = subst (λ (t : Option (List ℕ)). IsCaused (is_some t) opening.counts h) (sym read.same) s.caused;
      allowed = λ t. s.allowed (subst (λ (o : Option (List ℕ)). IsTold o start h) read.same t);
    },
    refl,
  ) where
    before : is_some (disks.contents file.cells.disk) ≡ true → is_some (disks.contents old.file.cells.disk) ≡ true
    before is = ap is_some (sym read.same) ∙ is

    leads : is_some (disks.contents file.cells.disk) ≡ true →
        Leads disks old.file.cells.disk file.cells.disk old.file.cells.states file.cells.states (durable_keys s.model) (course_of start h).doubt (durable_keys s.model) (course_of start h).doubt
    leads is = read.keeps (durable_keys s.model) (course_of start h).doubt (s.file (before is))

  module _ (old : Store D A C) (start : Service) (opening : Opening) (h : List Entry) where
    -- no key changes, and no entry is added
    pub goes_on : (file : KeyFile D) (slots : KeySlots) (buffer : Buffer) (all : List Pairs) (K : Type 0) → IsReadOn old.file file → (K → IsTold (disks.contents old.file.cells.disk) start h) →
        (s : Holds disks elements admits (IsTold (disks.contents old.file.cells.disk) start h) old start opening h all) → Agrees slots.table.slots s.model all →
        (n : Holds disks elements admits K (moved old file slots buffer) start opening h all) × (n.model ≡ s.model)
    goes_on file slots buffer all K read known s agrees = carries K file slots buffer old.devices read refl refl s inl known agrees s.holdings

    -- a turn without rank
    pub unranked : (slots : KeySlots) (all more : List Pairs) (s : StandsFor disks elements admits old start opening h all) → Agrees slots.table.slots s.holds.model more → AreHoldings more →
        StandsFor disks elements admits (record old { slots = slots }) start opening h more
    unranked slots all more s agrees holdings = record {
      holds = (carries (IsTold (disks.contents old.file.cells.disk) start h) old.file slots old.buffer old.devices (left_alone old.file) refl refl s.holds inl (λ k. k) agrees holdings).0;
      counts = s.counts;
    }

  -- another buffer
  pub with_buffer : (K : Type 0) (old : Store D A C) (buffer : Buffer) (start : Service) (opening : Opening) (h : List Entry) (all : List Pairs) → (is_some (disks.contents old.file.cells.disk) ≡ true → K) → (s : Holds disks elements admits K old start opening h all) →
      (n : Holds disks elements admits K (record old { buffer = buffer }) start opening h all) × (n.model ≡ s.model)
  with_buffer K old buffer start opening h all told s = carries K old.file old.slots buffer old.devices (left_alone old.file) refl refl s told (λ k. k) s.slots s.holdings
