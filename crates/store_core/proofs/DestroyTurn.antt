-- A ranked turn that destroys a key.
use Rattle.store_core.proofs.Common.{[], AdmissionGhosts, Agrees, ap, arith, cell_state, CellState, creation_of_state, Destroy, destroyed_sound, DevicesGhosts, DiskGhosts, Doubt, doubt_by, durable_keys, Entry, false, FaultMark, Free, has_id, HasFault, holds_key, inl, is_destruction, is_persistent_key, is_some, is_volatile, IsEntry, IsPut, IsSoundStore, IsSure, kept, Key, key_changed, key_of_slot, KeyFile, Keys, KeySlots, Leads, length, List, map_get, MayBeMarked, Model, None, not, OnStore, Opening, option_map, Pairs, Plain, Puts, ranked_on, refl, Service, set, settled_states, slice_index, slice_set, Slot, slot_at, SlotHasKey, Some, StandsFor, StandsForKeys, stays, Store, Stored, stored, subst, sym, true, without_key, ℕ, ◌++◌, ◌+◌, ◌-◌, ◌/◌, ◌<◌, ◌^◌, ◌∙◌, ◌∷◌, ◌≡◌, ◌⊎◌, cell_count}
use Rattle.store_core.proofs.{Holding.counts_of, Holding.same_device, Histories.told_before, Kept.key_of_cell, Changing.leaves, Changing.turns_standing, Freeing.MovesFree, Freeing.unmoved, Removing.gone, Removing.takes_out, Removing.without_kept, Removing.kept_here, Removing.kept_same, Removing.directory_emptied, Removing.directory_stays, Removing.device_stays, Removing.device_loses}
use Rattle.store_core.proofs.Destroyed.{entry_removes, entry_stays, changes_it, doubt_here, opens_with, high_is_volatile, fewer_kept, as_many_live, as_many_kept, live_after}

-- THE KEY OF A SLOT WHOSE IDENTIFIER CAN'T BE STATED

pub record IsInSlot (m : Model) (id : ℕ) (slot : Slot) : Type 0 where
  pub key : Key
  pub there : map_get m.keys id ≡ Some key
  pub volatile : is_volatile key.attributes ≡ true
  pub has : SlotHasKey slot key

pub slot_key : (slots : List Slot) (m : Model) (all : List Pairs) (id i : ℕ) → IsSoundStore m → 0x3fffffff < id → Agrees slots m all → i < 384 → holds_key id (slot_at slots i) ≡ true → IsInSlot m id (slot_at slots i)
slot_key slots m all id i sound high agrees lt holds =
    let k = key_of_slot slots m all id i agrees lt holds in
    record { key = k.0; there = k.1; volatile = high_is_volatile m id k.0 sound high k.1; has = k.2 }

module _ {D A C : Type 0} (disks : DiskGhosts D) (elements : DevicesGhosts A) (admits : AdmissionGhosts C)
    (only_now : (disk : D) (image : List ℕ) → disks.left_since disk (disks.moment disk) image → disks.may_leave disk image)
    (old : Store D A C) (start : Service) (opening : Opening) (h : List Entry) (all : List Pairs) (e : Entry) (id : ℕ) (call : e.call ≡ OnStore (Destroy id)) where
  abbrev disk : D
  disk = old.file.cells.disk

  abbrev cells : List CellState
  cells = old.file.cells.states

  abbrev StandsOld : Type 0
  StandsOld = StandsFor disks elements admits old start opening h all

  abbrev StandsNew : Store D A C → Type 0
  StandsNew new = StandsFor disks elements admits new start opening (h ++ e ∷ []) all

  abbrev IsTurnTo : Store D A C → FaultMark → Type 0
  IsTurnTo new mark = IsEntry disks elements admits new mark e

  -- there is no key to destroy
  pub nothing : (s : StandsOld) → map_get s.holds.model.keys id ≡ None → IsTurnTo (ranked_on old) Plain → StandsNew (ranked_on old)
  nothing s none is =
      let before = told_before (disks.contents disk) start h e in
      (leaves disks elements admits only_now e (λ service. map_get service.store.keys id ≡ None) Plain old.slots old.devices s.holds before (λ k. ap (λ (x : Model). map_get x.keys id) (sym (s.holds.replayed (before k))) ∙ none)
      (λ service known. entry_stays e id call service is.marked known) s.holds.slots s.holds.holdings refl (same_device (elements.keys old.devices) s.holds.model s.holds.device) tt (λ service known at. tt)
      (λ c known. doubt_here e id call c Plain None is.marked (ap kept known)) (λ service known. inl (ap is_persistent_key (changes_it e id call service ∙ known))) is).0

  -- what the slots make of a key that is taken out
  abbrev pub Forgets : KeySlots → Type 0
  Forgets slots = (m m' : Model) (all : List Pairs) → Agrees old.slots.table.slots m all → IsSoundStore m → Puts m m' id None → Agrees slots.table.slots m' all

  -- what the file makes of a key that it destroys
  pub record IsUnfiled (file : KeyFile D) (mark : FaultMark) (c : ℕ) : Type 0 where
    pub within : c < cell_count
    pub key : has_id id (cell_state cells c) ≡ true
    pub sized : length file.cells.states ≡ cell_count
    pub missing : settled_states file.cells.states ≡ set (settled_states cells) c Free
    pub tells : is_some (disks.contents file.cells.disk) ≡ is_some (disks.contents disk)
    pub leads : (keys keys' : Keys) (doubt : Doubt) (key : Stored) → StandsForKeys disks disk cells keys doubt → keys id ≡ Some key → IsPut keys keys' id None →
        Leads disks disk file.cells.disk cells file.cells.states keys doubt keys' (doubt_by mark true key doubt)
    pub frees : MovesFree true true mark cells file.cells.states
    pub settles : (key : Stored) (doubt : Doubt) → doubt_by mark true key doubt ≡ [] → IsSure file.cells.states

  -- a store without a key of its file
  abbrev pub unfiled : KeyFile D → KeySlots → Store D A C
  unfiled file slots = record old { file = file; slots = slots; kept = old.kept - 1; ranked = old.ranked + 1 }

  -- the key of a cell is destroyed
  pub destroys_kept : (file : KeyFile D) (slots : KeySlots) (mark : FaultMark) (c : ℕ) (s : StandsOld) → IsUnfiled file mark c → Forgets slots →
      HasFault (is_some (disks.contents file.cells.disk)) (counts_of (disks.faults disk) (elements.faults old.devices)) e mark →
      ((service : Service) → is_persistent_key (key_changed service e.caller e.call) ≡ true → MayBeMarked service e.caller e.call mark) →
      IsTurnTo (unfiled file slots) mark → StandsNew (unfiled file slots)
  destroys_kept file slots mark c s f forgets fault may is =
      let m = s.holds.model in
      let own = key_of_cell cells m id c s.holds.directory f.within f.key in
      let key = own.0 in
      let there = own.1 in
      let persistent = own.2 in
      let fewer = fewer_kept m id key there s.holds.sound persistent in
      let was = s.holds.kept in
      turns_standing disks elements admits only_now old (unfiled file slots) start opening h all all e mark (gone m id) s (record {
        becomes = λ service known same. ap (λ (x : Model). gone x id) same ∙ sym (entry_removes e id call service key (ap (λ (x : Model). map_get x.keys id) (sym same) ∙ there));
        sound = destroyed_sound m id s.holds.sound;
        counts = refl;
        goes_on = record { rules = refl; limits = refl; found = refl; ranked = refl };
        places = refl;
        made = s.holds.made;
        live = λ caller le. as_many_live m id key there s.holds.sound persistent caller ∙ s.holds.live caller le;
        kept = omega (arith, fewer, was);
        slots = forgets m (gone m id) all s.holds.slots s.holds.sound (takes_out m id);
        holdings = s.holds.holdings;
        directory = directory_emptied m id key there cells file.cells.states c (creation_of_state (cell_state cells c)) (record { sized = f.sized; inside = f.within; settled = f.missing }) (opens_with (cell_state cells c) id f.key) s.holds.directory;
        device = device_stays m id key there (elements.keys old.devices) s.holds.device;
        tells = f.tells;
        leads = λ course known same stands. subst (Leads disks disk file.cells.disk cells file.cells.states (durable_keys m) course.doubt (durable_keys (gone m id)))
            (sym (doubt_here e id call course mark _ is.marked (ap (λ (x : Model). durable_keys x id) (sym same) ∙ kept_here m id key there false persistent)))
            (f.leads (durable_keys m) (durable_keys (gone m id)) course.doubt (stored key.number key.attributes key.bytes) stands (kept_here m id key there false persistent) (without_kept m id));
        frees = λ service known same. subst (λ b. MovesFree (is_persistent_key (key_changed service e.caller e.call)) b mark cells file.cells.states) (sym (ap is_destruction call))
            (subst (λ b. MovesFree b true mark cells file.cells.states) (sym (ap is_persistent_key (changes_it e id call service ∙ (ap (λ (x : Model). map_get x.keys id) (sym same) ∙ there)) ∙ ap not persistent)) f.frees);
        settles = λ course known same sure none. f.settles (stored key.number key.attributes key.bytes) course.doubt
            (sym (doubt_here e id call course mark _ is.marked (ap (λ (x : Model). durable_keys x id) (sym same) ∙ kept_here m id key there false persistent)) ∙ none);
        fault = fault;
        may = λ service known same. may service (ap is_persistent_key (changes_it e id call service ∙ (ap (λ (x : Model). map_get x.keys id) (sym same) ∙ there)) ∙ ap not persistent);
      }) is

  -- a store without a volatile key of a caller
  abbrev pub unslotted : A → KeySlots → (caller : ℕ) → Store D A C
  unslotted devices slots caller = record old { slots = slots; devices = devices; live = slice_set old.live caller (slice_index old.live caller - 1); ranked = old.ranked + 1 }

  -- the key of such a slot is destroyed
  pub destroys_volatile : (devices : A) (slots : KeySlots) (caller : ℕ) (mark : FaultMark) (slot : Slot) (s : StandsOld) → IsInSlot s.holds.model id slot → Forgets slots →
      1024 + caller ≡ id / 2 ^ 20 → elements.locations devices ≡ elements.locations old.devices → ((elements.keys devices ≡ elements.keys old.devices) ⊎ (elements.keys devices ≡ option_map (without_key slot.creation) (elements.keys old.devices))) →
      HasFault (is_some (disks.contents disk)) (counts_of (disks.faults disk) (elements.faults old.devices)) e mark →
      ((service : Service) → key_changed service e.caller e.call ≡ map_get s.holds.model.keys id → MayBeMarked service e.caller e.call mark) →
      IsTurnTo (unslotted devices slots caller) mark → StandsNew (unslotted devices slots caller)
  destroys_volatile devices slots caller mark slot s k forgets named places loses fault may is =
      let m = s.holds.model in
      let key = k.key in
      let there = k.there in
      let volatile = k.volatile in
      turns_standing disks elements admits only_now old (unslotted devices slots caller) start opening h all all e mark (gone m id) s (record {
        becomes = λ service known same. ap (λ (x : Model). gone x id) same ∙ sym (entry_removes e id call service key (ap (λ (x : Model). map_get x.keys id) (sym same) ∙ there));
        sound = destroyed_sound m id s.holds.sound;
        counts = refl;
        goes_on = record { rules = refl; limits = refl; found = refl; ranked = refl };
        places = places;
        made = s.holds.made;
        live = live_after m id key there s.holds.sound volatile caller named old.live s.holds.live;
        kept = as_many_kept m id key there s.holds.sound volatile ∙ s.holds.kept;
        slots = forgets m (gone m id) all s.holds.slots s.holds.sound (takes_out m id);
        holdings = s.holds.holdings;
        directory = directory_stays m id key there cells volatile s.holds.directory;
        device = device_loses m id key there (elements.keys old.devices) (elements.keys devices) s.holds.sound
            (subst (λ (n : ℕ). (elements.keys devices ≡ elements.keys old.devices) ⊎ (elements.keys devices ≡ option_map (without_key n) (elements.keys old.devices))) k.has.number loses) s.holds.device;
        tells = refl;
        leads = λ course known same stands. subst (Leads disks disk disk cells cells (durable_keys m) course.doubt (durable_keys (gone m id)))
            (sym (doubt_here e id call course mark None is.marked (ap (λ (x : Model). durable_keys x id) (sym same) ∙ kept_here m id key there true volatile)))
            (stays disks disk cells (durable_keys m) (durable_keys (gone m id)) course.doubt (kept_same m id key there volatile) stands);
        frees = λ service known same. unmoved (is_persistent_key (key_changed service e.caller e.call)) (is_destruction e.call) mark cells
            (inl (ap is_persistent_key (changes_it e id call service ∙ (ap (λ (x : Model). map_get x.keys id) (sym same) ∙ there)) ∙ ap not volatile));
        settles = λ course known same sure none. sure (sym (doubt_here e id call course mark None is.marked (ap (λ (x : Model). durable_keys x id) (sym same) ∙ kept_here m id key there true volatile)) ∙ none);
        fault = fault;
        may = λ service known same. may service (changes_it e id call service ∙ ap (λ (x : Model). map_get x.keys id) (sym same));
      }) is
