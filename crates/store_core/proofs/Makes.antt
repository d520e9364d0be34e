-- A ranked turn that creates a key.
use Rattle.store_core.proofs.Common.{[], AdmissionGhosts, Agrees, ap, AreHoldings, arith, Attributes, Bool, cond, count_persistent, counted, Course, created, created_sound, Destroy, DevicesGhosts, DiskGhosts, Doubt, doubt_after, doubt_by, durable_keys, Entry, failed_step, false, false≢true, FaultMark, Holds, HoldsKeys, is_destruction, is_persistent_key, is_some, is_volatile, IsDirectory, IsEntry, IsSure, IsTold, kept, Key, key_answered, key_changed, Leads, length, List, live_volatile, map_get, MayBeKept, min, Model, new_id, new_key, None, not, OnHandle, OnStore, Opening, Option, option_map_or, outcome_of, Pairs, Plain, plain_step, refl, refusal, replay, Reply, Request, Rose, serve, Service, slice_index, Some, StandsFor, StandsForKeys, Status, Store, Stored, stored, subst, sym, true, ℕ, ◌++◌, ◌+◌, ◌-◌, ◌^◌, ◌∙◌, ◌∷◌, ◌≡◌, ◌≤◌}
use Rattle.store_core.proofs.{Changing.IsRankedOn, Changing.retold, Changing.turns, Added.put_here, Freeing.MovesFree}

-- THE REQUEST

-- where no device fails, an entry makes this key of a caller
pub record IsMakingAt (e : Entry) (caller : ℕ) (recorded : Attributes) (bytes : List ℕ) (service : Service) : Type 0 where
  pub leaves : (plain_step service e.caller e.call).service.store ≡ (created service.store caller recorded bytes).store
  pub answers : (plain_step service e.caller e.call).reply ≡ (created service.store caller recorded bytes).reply

-- or is refused
pub record IsRefusedAt (e : Entry) (status : Status) (service : Service) : Type 0 where
  pub leaves : (plain_step service e.caller e.call).service.store ≡ counted service.store
  pub answers : (plain_step service e.caller e.call).reply ≡ refusal status

-- what a request that destroys no key changes is what it answers
answered_key : (service : Service) (caller : ℕ) (request : Request) → is_destruction request ≡ false →
    key_changed service caller request ≡ key_answered (plain_step service caller request).service.store (plain_step service caller request).reply.output
answered_key service caller (OnStore (Destroy id)) keeps = absurd (false≢true (sym keeps))
answered_key service caller request keeps = refl

-- and where a device fails it leaves the keys
failed_counts : (service : Service) (caller : ℕ) (request : Request) → is_destruction request ≡ false → (failed_step service caller request).store ≡ counted service.store
failed_counts service caller (OnStore (Destroy id)) keeps = absurd (false≢true (sym keeps))
failed_counts service caller (OnStore call) keeps = refl
failed_counts service caller (OnHandle handle call) keeps = refl

abbrev pub IsFailure : FaultMark → Type 0
IsFailure Plain = ⊥
IsFailure mark = Unit {0}

pub marked_counts : (service : Service) (caller : ℕ) (request : Request) (mark : FaultMark) → IsFailure mark → is_destruction request ≡ false → (serve service caller request mark).service.store ≡ counted service.store
marked_counts service caller request Plain failed keeps = absurd failed
marked_counts service caller request mark failed keeps = failed_counts service caller request keeps

module _ (e : Entry) (keeps : is_destruction e.call ≡ false) where
  pub plain_counts : (service : Service) → e.mark ≡ Plain → (outcome_of service e).service.store ≡ (plain_step service e.caller e.call).service.store
  plain_counts service plain = ap (λ (mark : FaultMark). (serve service e.caller e.call mark).service.store) plain

  -- the key of a doubt is that which the entry answers
  pub doubted : (s : Course) (mark : FaultMark) (o : Option Key) (kept_is : Option Stored) → e.mark ≡ mark → key_changed s.service e.caller e.call ≡ o → kept o ≡ kept_is →
      doubt_after e s ≡ option_map_or (λ (key : Stored). doubt_by mark false key s.doubt) kept_is s.doubt
  doubted s mark o kept_is marked changed is =
      ap (λ b. option_map_or (λ (key : Stored). doubt_by e.mark b key s.doubt) (kept (key_changed s.service e.caller e.call)) s.doubt) keeps
      ∙ (ap (λ (x : FaultMark). option_map_or (λ (key : Stored). doubt_by x false key s.doubt) (kept (key_changed s.service e.caller e.call)) s.doubt) marked
      ∙ ap (λ (x : Option Stored). option_map_or (λ (key : Stored). doubt_by mark false key s.doubt) x s.doubt) (ap kept changed ∙ is))

  module _ (caller : ℕ) (recorded : Attributes) (bytes : List ℕ) where
    abbrev made_of_it : Model → Model
    made_of_it m = (created m caller recorded bytes).store

    -- the key that changes is the new one
    pub changes_new : (service : Service) → IsMakingAt e caller recorded bytes service → key_changed service e.caller e.call ≡ map_get (made_of_it service.store).keys (new_id service.store caller recorded)
    changes_new service is =
        answered_key service e.caller e.call keeps ∙ (ap (λ (m : Model). key_answered m (plain_step service e.caller e.call).reply.output) is.leaves
        ∙ ap (λ (r : Reply). key_answered (made_of_it service.store) r.output) is.answers)

  -- a refusal changes none
  pub changes_none : (status : Status) (service : Service) → IsRefusedAt e status service → key_changed service e.caller e.call ≡ None
  changes_none status service is = answered_key service e.caller e.call keeps ∙ ap (λ (r : Reply). key_answered (plain_step service e.caller e.call).service.store r.output) is.answers

-- A count that rose since a later one rose since an earlier one.
pub rose_since : (before past now : ℕ) → before ≤ past → Rose past now → Rose before now
rose_since before past now le rose = least before past now le rose where
  least : (b p n : ℕ) → b ≤ p → min (p + 1) (2 ^ 64 - 1) ≤ n → min (b + 1) (2 ^ 64 - 1) ≤ n
  least b p n le at = omega (arith, le, at)

module _ {D A C : Type 0} (disks : DiskGhosts D) (elements : DevicesGhosts A) (admits : AdmissionGhosts C)
    (only_now : (disk : D) (image : List ℕ) → disks.left_since disk (disks.moment disk) image → disks.may_leave disk image)
    (old new : Store D A C) (start : Service) (opening : Opening) (h : List Entry) (all less : List Pairs) (e : Entry) where
  abbrev disk : D
  disk = old.file.cells.disk

  abbrev HoldsOld : Type 0
  HoldsOld = Holds disks elements admits (IsTold (disks.contents disk) start (h ++ e ∷ [])) old start opening h all

  abbrev StandsNew : Type 0
  StandsNew = StandsFor disks elements admits new start opening (h ++ e ∷ []) less

  abbrev IsTurnTo : FaultMark → Type 0
  IsTurnTo mark = IsEntry disks elements admits new mark e

  -- what a turn leaves of a store, whatever key it makes
  pub record IsSameBut (m' : Model) : Type 0 where
    pub goes_on : IsRankedOn old new
    pub places : elements.locations new.devices ≡ elements.locations old.devices
    pub made : m'.made ≡ new.made
    pub live : (caller : ℕ) → caller ≤ 16 → live_volatile m'.keys caller ≡ slice_index new.live caller
    pub kept : count_persistent m'.keys ≡ new.kept
    pub slots : Agrees new.slots.table.slots m' less
    pub directory : IsDirectory new.file.cells.states m'
    pub device : HoldsKeys (elements.keys new.devices) m'
    pub tells : is_some (disks.contents new.file.cells.disk) ≡ is_some (disks.contents disk)

  -- a key was made
  pub makes : (caller : ℕ) (recorded : Attributes) (bytes : List ℕ) (s : HoldsOld) → 1 ≤ caller → caller ≤ 16 → MayBeKept s.model caller recorded (length bytes) → is_destruction e.call ≡ false →
      (IsTold (disks.contents disk) start (h ++ e ∷ []) → IsMakingAt e caller recorded bytes (replay start h)) → AreHoldings less → IsSameBut (created s.model caller recorded bytes).store →
      ((doubt : Doubt) → StandsForKeys disks disk old.file.cells.states (durable_keys s.model) doubt →
      Leads disks disk new.file.cells.disk old.file.cells.states new.file.cells.states (durable_keys s.model) doubt (durable_keys (created s.model caller recorded bytes).store)
      (cond (is_volatile recorded) doubt [])) →
      ((doubt : Doubt) → (doubt ≡ [] → IsSure old.file.cells.states) → cond (is_volatile recorded) doubt [] ≡ [] → IsSure new.file.cells.states) →
      MovesFree (not (is_volatile recorded)) false Plain old.file.cells.states new.file.cells.states → IsTurnTo Plain → StandsNew
  makes caller recorded bytes s first last may keeps making holdings same leads settles frees is =
      (turns disks elements admits only_now (IsMakingAt e caller recorded bytes) (IsTold (disks.contents disk) start (h ++ e ∷ [])) old new start opening h all less e Plain (created s.model caller recorded bytes).store s
      (retold (disks.contents disk) (disks.contents new.file.cells.disk) start (h ++ e ∷ []) same.tells) (λ k. making (retold (disks.contents disk) (disks.contents new.file.cells.disk) start (h ++ e ∷ []) same.tells k)) (record {
        becomes = λ service known at. ap (λ (x : Model). (created x caller recorded bytes).store) at ∙ sym (plain_counts e keeps service is.marked ∙ known.leaves);
        sound = created_sound s.model caller recorded bytes first last s.sound may;
        counts = refl;
        goes_on = same.goes_on;
        places = same.places;
        made = same.made;
        live = same.live;
        kept = same.kept;
        slots = same.slots;
        holdings = holdings;
        directory = same.directory;
        device = same.device;
        tells = same.tells;
        leads = λ c known at stands. subst (Leads disks disk new.file.cells.disk old.file.cells.states new.file.cells.states (durable_keys s.model) c.doubt (durable_keys (created s.model caller recorded bytes).store))
            (sym (doubt_is c known at)) (leads c.doubt stands);
        frees = λ service known at. subst (λ b. MovesFree (is_persistent_key (key_changed service e.caller e.call)) b Plain old.file.cells.states new.file.cells.states) (sym keeps)
            (subst (λ b. MovesFree b false Plain old.file.cells.states new.file.cells.states) (sym (ap is_persistent_key (changed service known at))) frees);
        settles = λ c known at sure none. settles c.doubt sure (sym (doubt_is c known at) ∙ none);
        fault = tt;
        may = λ service known at. tt;
      }) is).0
    where
      own : Key
      own = new_key s.model caller (new_id s.model caller recorded) recorded bytes

      changed : (service : Service) → IsMakingAt e caller recorded bytes service → s.model ≡ service.store → key_changed service e.caller e.call ≡ Some own
      changed service known at =
          changes_new e keeps caller recorded bytes service known ∙ (ap (λ (x : Model). map_get (created x caller recorded bytes).store.keys (new_id x caller recorded)) (sym at) ∙ put_here s.model caller recorded bytes first last s.sound may)

      doubt_is : (c : Course) → IsMakingAt e caller recorded bytes c.service → s.model ≡ c.service.store → doubt_after e c ≡ cond (is_volatile recorded) c.doubt []
      doubt_is c known at = doubted e keeps c Plain (Some own) (kept (Some own)) is.marked (changed c.service known at) refl
          ∙ by_kind (is_volatile recorded)
        where
          by_kind : (b : Bool) → option_map_or (λ (key : Stored). doubt_by Plain false key c.doubt) (cond b None (Some (stored own.number own.attributes own.bytes))) c.doubt ≡ cond b c.doubt []
          by_kind true = refl
          by_kind false = refl
