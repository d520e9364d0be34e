-- A store that was opened stands for a start, before any call.
use Rattle.store_core.proofs.Common.{[], AdmissionGhosts, Agrees, ap, AreFound, AreHoldings, AreOpened, arith, Attributes, Bool, CellState, count_by, count_by-le-length, count_persistent, DevicesGhosts, DiskGhosts, durable_keys, empty_ones, empty_slot, false, false≢true, for_told, found_in, HasKey, HeldKeys, HoldsKeys, IfSome, is_opaque, is_open, is_some, is_volatile, is_volatile_of, IsDirectory, IsHolding, IsOpened, IsOpeningRefused, IsStart, IsVolatileKey, KeepsKeys, Key, KeyFile, Keys, Lacks, length, length-replicate, List, live_volatile, lt-ltb, map_get, Memory, Model, nat_lt, None, of_volatile, Open, OpenedKey, Opening, opening_of, Option, Pairs, refl, replicate, Service, Settings, slice_get, slice_index, slice_index_or, Some, some_weaker, Sound, stands_fits, StandsFor, StandsForContents, StandsForKeys, start_of, Store, subst, suc, sym, true, zero, ℕ, ◌+◌, ◌↔◌, ◌∙◌, ◌≡◌, ◌≤◌, service_of, cell_count}
use Rattle.std.proofs.lemmas.List.Elements.{All-replicate}
use Rattle.key_cells.proofs.Opened.{calm_none, refused_calm}
use Rattle.persistent_keys.proofs.Founding.{found_stands}
use Rattle.store_model.proofs.Starts.{all_counted, store_starts}
use Rattle.store_model.specs.{declared.limits.Limits.Limits, Prelude.HaveRoom, Prelude.is_in_range, Prelude.is_low, Prelude.is_per_range}
use Rattle.store_core.specs.{Limits.HasRoom, declared.store.Opened.Opened}
use Rattle.store_core.proofs.{Ranges.range_counts, FoundMap.HasEachOnce, FoundMap.AreKept, FoundMap.id_of, FoundMap.numbered, FoundMap.found_at, FoundMap.at_found, FoundMap.are_found, FoundMap.counted, Kept.lasting, Kept.local, OpenCells.placed, OpenCells.are_kept, OpenCells.each_once, OpenCells.some_opened, Sure.opened_sure}
use Rattle.store_core.proofs.Openings.{told_twice, cell_key, key_found, found_key, durable_found}

zero_at : (n c : ℕ) → ◌≡◌ {A = ℕ} (slice_index_or (replicate n 0) c 0) 0
zero_at zero c = refl
zero_at (suc n) zero = refl
zero_at (suc n) (suc c) = zero_at n c

-- callers that have nothing out
none_out : (callers : ℕ) → callers ≤ 16 → AreHoldings (replicate callers [])
none_out callers few = record {
  callers = omega (arith, length-replicate {A = Pairs} callers []);
  each = All-replicate IsHolding callers [] (record { leases = omega arith; fillings = omega arith });
}

-- KEYS THAT WERE OPENED, AS THE MODEL'S

module _ (told : Option (List ℕ)) (slots : List CellState) (found : List OpenedKey) (settings : Settings) (kept : AreKept found) (once : HasEachOnce found) where
  abbrev first : Model
  first = start_of settings found

  pub none_volatile : (id : ℕ) → IsVolatileKey (map_get first.keys id) → ⊥
  none_volatile id = of (map_get first.keys id) refl
    where
      of : (o : Option Key) → map_get first.keys id ≡ o → IsVolatileKey o → ⊥
      of None at is = is
      of (Some key) at is =
          let f = found_at 0 found id key at in
          false≢true (sym (lasting f.from.attributes f.from.bytes (kept.each f.place f.from f.there)) ∙ (ap (λ (k : Key). is_volatile k.attributes) (sym f.is) ∙ is))

  none_opaque : (id : ℕ) (key : Key) → map_get first.keys id ≡ Some key → is_opaque key.attributes ≡ true → ⊥
  none_opaque id key at is =
      let f = found_at 0 found id key at in
      false≢true (sym (local f.from.attributes f.from.bytes (kept.each f.place f.from f.there)) ∙ (ap (λ (k : Key). is_opaque k.attributes) (sym f.is) ∙ is))

  pub device_starts : (held : Option HeldKeys) → ((handle : ℕ) → Lacks held handle) → HoldsKeys held first
  device_starts held lacks = record { there = λ id key at is. absurd (none_opaque id key at is); new = λ handle le. lacks handle }

  low : (i : ℕ) (key : OpenedKey) → slice_get found i ≡ Some key → id_of key ≤ 0x3fffffff
  low i key e = (kept.each i key e).named.1

  not_of : (c id : ℕ) → id ≤ 0x3fffffff → (b : Bool) → is_volatile_of c id ≡ b → b ≡ false
  not_of c id few true is = absurd (of_volatile id c few is)
  not_of c id few false is = refl

  pub none_live : (c : ℕ) → live_volatile first.keys c ≡ 0
  none_live c = counted (is_volatile_of c) false 0 found once (λ i key e. not_of c (id_of key) (low i key e) (is_volatile_of c (id_of key)) refl)

  pub all_persistent : count_persistent first.keys ≡ length found
  all_persistent = counted (λ id. nat_lt id 0x40000000) true 0 found once (λ i key e. lt-ltb (id_of key) 0x40000000 (let most = low i key e in omega arith))

  -- a directory of so many cells has these keys
  module _ (sized : length slots ≡ cell_count) (are : AreOpened told slots found) where
    directory_starts : IsDirectory slots first
    directory_starts = record {
      sized = sized;
      there = λ id key at is.
          let f = found_at 0 found id key at in
          let p = placed told slots found sized are f.place f.from f.there in
          let number : f.place ≡ key.number = omega arith ∙ ap (λ (k : Key). k.number) (sym f.is) in
          (p.at, p.within, p.slot ∙ (ap (λ (x : ℕ). Open x f.place) f.named ∙ ap (Open id) number));
      only = λ c id number lt is.
          let k = are.each c id number lt is in
          let at : map_get first.keys id ≡ Some (numbered (0 + number) k.0) = ap (map_get first.keys) (sym k.2) ∙ at_found 0 found once number k.0 k.1 in
          (numbered (0 + number) k.0, at, lasting k.0.attributes k.0.bytes k.3, omega arith);
      one = are.one;
    }

    low_key : (id : ℕ) (key : Key) → map_get first.keys id ≡ Some key → is_volatile key.attributes ≡ false → is_low id ≡ true
    low_key id key at persistent = let f = found_at 0 found id key at in lt-ltb id 0x40000000 (omega (arith, low f.place f.from f.there, f.named))

    lasting_key : (id : ℕ) (key : Key) → map_get first.keys id ≡ Some key → is_low id ≡ true → is_volatile key.attributes ≡ false
    lasting_key id key at below =
        let f = found_at 0 found id key at in
        ap (λ (k : Key). is_volatile k.attributes) f.is ∙ lasting f.from.attributes f.from.bytes (kept.each f.place f.from f.there)

    room_found : (limits : Limits) → limits ≡ settings.limits → HasRoom limits slots → HaveRoom settings.limits found
    room_found limits are_limits room per range =
        let few = room (ap is_per_range are_limits ∙ per) range in
        omega (arith, few, range_counts slots first directory_starts low_key lasting_key range, all_counted first (is_in_range range) 0 found (are_found first found kept once))

    few_found : length found ≤ cell_count
    few_found = omega (arith, are.count, count_by-le-length is_open slots, sized)

-- A STORE THAT WAS OPENED

module _ {D A C : Type 0} (disks : DiskGhosts D) (elements : DevicesGhosts A) (admits : AdmissionGhosts C) where
  abbrev Start : Opened D A C → Service → Type 0
  Start = IsStart disks elements admits

  abbrev opening : Opened D A C → Opening
  opening = opening_of disks elements admits

  -- a store as it is made of a file that was opened
  pub record IsNew (first : D) (store : Store D A C) : Type 0 where
    pub file : IsOpened disks first store.file.cells.disk store.file.cells.states
    pub slots : store.slots.table.slots ≡ replicate 384 empty_slot
    pub made : store.made ≡ replicate 17 0
    pub live : store.live ≡ replicate 17 0
    pub kept : store.kept ≡ count_by is_open store.file.cells.states
    pub found : store.found ≡ count_by is_open store.file.cells.states
    pub ranked : store.ranked ≡ 0
    pub saw_file : store.opened.file.value ≡ store.file
    pub saw_devices : store.opened.devices.value ≡ store.devices
    pub saw_rules : store.opened.rules.value ≡ store.rules
    pub saw_limits : store.opened.limits.value ≡ store.limits
    pub room : HasRoom store.limits store.file.cells.states

  module _ (first : D) (store : Store D A C) (new : IsNew first store) (reads : IfSome (disks.contents store.file.cells.disk) (disks.may_leave store.file.cells.disk)) where
    abbrev disk : D
    disk = store.file.cells.disk

    abbrev slots : List CellState
    slots = store.file.cells.states

    keys_of : (start : Service) → (s : Start store.opened start) → AreOpened (disks.contents disk) slots s.found
    keys_of start s = subst (λ (f : KeyFile D). AreOpened (disks.contents f.cells.disk) f.cells.states s.found) new.saw_file s.keys

    sounds : IfSome (disks.contents first) (λ image. (read : List ℕ) → disks.may_leave disk read → Sound slots (found_in image) read)
    sounds = some_weaker (disks.contents first) (λ image. StandsForContents disks disk slots (found_in image)) (λ image. (read : List ℕ) → disks.may_leave disk read → Sound slots (found_in image) read) (λ image s. s.each) new.file.stands

    -- there is a start
    pub starts : (settings : Settings) → settings.seed ≡ store.opened.seed.value → settings.labels ≡ admits.labels store.rules → settings.locations ≡ elements.locations store.devices → settings.limits ≡ store.limits → (start : Service) × Start store.opened start
    starts settings seed_is labels_are locations_are limits_are =
        let keys = some_opened (disks.contents disk) slots new.file.sized new.file.numbered new.file.one (cell_key slots (disks.contents first) (disks.contents disk) (disks.may_leave disk) new.file.named new.file.file.tells new.file.found sounds reads) in (
          service_of (start_of settings keys.0),
          record {
            settings = settings;
            found = keys.0;
            is = refl;
            seed_is = seed_is;
            labels_are = labels_are ∙ ap admits.labels (sym new.saw_rules);
            locations_are = locations_are ∙ ap elements.locations (sym new.saw_devices);
            limits_are = limits_are ∙ sym new.saw_limits;
            keys = subst (λ (f : KeyFile D). AreOpened (disks.contents f.cells.disk) f.cells.states keys.0) (sym new.saw_file) keys.1;
          },
        )

    -- and its keys are those of the image
    abbrev HasThose : List OpenedKey → List ℕ → Type 0
    HasThose found image = (a : Attributes) (bytes : List ℕ) → HasKey a bytes image ↔ ((number : ℕ) × (slice_get found number ≡ Some (record { attributes = a; bytes = bytes })))

    those : (found : List OpenedKey) → AreOpened (disks.contents disk) slots found → IfSome (disks.contents first) (HasThose found)
    those found are =
        told_twice slots (disks.may_leave disk) (disks.contents first) (disks.contents disk) new.file.file.tells new.file.found sounds reads (λ before now. AreOpened now slots found → IfSome before (HasThose found))
        (λ keys. tt)
        (λ image read are keys a bytes. (
          key_found slots image read are new.file.sized found keys a bytes,
          found_key slots image read are new.file.sized found keys a bytes,
        ))
        are

    pub exactly : IfSome (disks.contents first) (λ image. (start : Service) (s : Start store.opened start) (a : Attributes) (bytes : List ℕ) → HasKey a bytes image ↔ ((number : ℕ) × (slice_get s.found number ≡ Some (record { attributes = a; bytes = bytes }))))
    exactly = of (disks.contents first) (λ found are. those found are)
      where
        of : (o : Option (List ℕ)) → ((found : List OpenedKey) → AreOpened (disks.contents disk) slots found → IfSome o (HasThose found)) → IfSome o (λ image. (start : Service) (s : Start store.opened start) → HasThose s.found image)
        of None each = tt
        of (Some image) each = λ start s. each s.found (keys_of start s)

    -- THE HISTORY WITHOUT AN ENTRY

    with_those : (keys : Keys) (o : Option (List ℕ)) → IfSome o (λ image. (k : Keys) → AreFound image slots k → StandsForKeys disks disk slots k []) → IfSome o (λ image. AreFound image slots keys) → is_some o ≡ true →
        StandsForKeys disks disk slots keys []
    with_those keys None each are tells = absurd (false≢true tells)
    with_those keys (Some image) each are tells = each keys are

    found_durable : (settings : Settings) (found : List OpenedKey) → AreOpened (disks.contents disk) slots found → HasEachOnce found → IfSome (disks.contents first) (λ image. AreFound image slots (durable_keys (start_of settings found)))
    found_durable settings found are once =
        told_twice slots (disks.may_leave disk) (disks.contents first) (disks.contents disk) new.file.file.tells new.file.found sounds reads (λ before now. AreOpened now slots found → IfSome before (λ image. AreFound image slots (durable_keys (start_of settings found))))
        (λ keys. tt)
        (λ image read are keys. durable_found slots image read are new.file.sized found keys settings once)
        are

    file_starts : (settings : Settings) (found : List OpenedKey) → AreOpened (disks.contents disk) slots found → HasEachOnce found → is_some (disks.contents disk) ≡ true → StandsForKeys disks disk slots (durable_keys (start_of settings found)) []
    file_starts settings found are once tells =
        with_those (durable_keys (start_of settings found)) (disks.contents first) (found_stands disks first disk slots new.file) (found_durable settings found are once) (sym new.file.file.tells ∙ tells)

    same_moment : disks.moment store.opened.file.value.cells.disk ≡ disks.moment disk
    same_moment = ap (λ (f : KeyFile D). disks.moment f.cells.disk) new.saw_file

    promise_starts : (start : Service) → ((image : List ℕ) → disks.left_since disk (disks.moment disk) image → disks.may_leave disk image) → StandsForKeys disks disk slots (durable_keys start.store) [] →
        KeepsKeys (disks.left_since disk) (disks.moment disk) (opening store.opened).moment start []
    promise_starts start only_now s = record {
      opened = (let same = same_moment in omega arith);
      entered = λ k lt. absurd (omega arith);
      since_opening = λ image left. (0, omega arith, omega arith, stands_fits disks disk slots (durable_keys start.store) [] image s (only_now image (subst (λ (t : ℕ). disks.left_since disk t image) same_moment left)));
      since_done = λ k lt. absurd (omega arith);
    }

    -- it stands for each start
    pub stands : ((handle : ℕ) → Lacks (elements.keys store.devices) handle) → ((image : List ℕ) → disks.left_since disk (disks.moment disk) image → disks.may_leave disk image) → (start : Service) (callers : ℕ) → Start store.opened start → callers ≤ 16 →
        StandsFor disks elements admits store start (opening store.opened) [] (replicate callers [])
    stands lacks only_now start callers s few =
        let found : List OpenedKey = s.found in
        let settings : Settings = s.settings in
        let m : Model = start_of settings found in
        let sized = new.file.sized in
        let are : AreOpened (disks.contents disk) slots found = keys_of start s in
        let kept : AreKept found = are_kept (disks.contents disk) slots found sized are in
        let once : HasEachOnce found = each_once (disks.contents disk) slots found sized are in
        let few_keys : length found ≤ cell_count = few_found (disks.contents disk) slots found settings kept once sized are in
        let file : is_some (disks.contents disk) ≡ true → StandsForKeys disks disk slots (durable_keys m) [] = file_starts settings found are once in
        let store_is : m ≡ start.store = ap (λ (x : Service). x.store) (sym s.is) in
        record {
          holds = record {
            model = m;
            replayed = λ k. store_is;
            sound = store_starts settings found (are_found m found kept once) few_keys (room_found (disks.contents disk) slots found settings kept once sized are store.limits (sym (s.limits_are ∙ new.saw_limits)) new.room);
            settings = ap (λ (x : Service). x.store.settings) (sym s.is);
            labels_are = s.labels_are ∙ ap admits.labels new.saw_rules;
            locations_are = s.locations_are ∙ ap elements.locations new.saw_devices;
            limits_are = s.limits_are ∙ new.saw_limits;
            found = are.count ∙ sym new.found;
            few = omega (arith, new.found, count_by-le-length is_open slots, new.file.sized);
            calls = sym new.ranked;
            made = sym new.made;
            live = λ caller le. none_live (disks.contents disk) slots found settings kept once caller ∙ sym (ap (λ (l : List ℕ). slice_index l caller) new.live ∙ zero_at 17 caller);
            kept = all_persistent (disks.contents disk) slots found settings kept once ∙ (are.count ∙ sym new.kept);
            ranked = new.ranked;
            slots = subst (λ l. Agrees l m (replicate callers [])) (sym new.slots) (empty_ones m callers (none_volatile (disks.contents disk) slots found settings kept once));
            holdings = none_out callers few;
            directory = directory_starts (disks.contents disk) slots found settings kept once sized are;
            device = device_starts (disks.contents disk) slots found settings kept once (elements.keys store.devices) lacks;
            file = file;
            sure = λ tells none. opened_sure (disks.contents first) slots sized new.file.found (sym new.file.file.tells ∙ tells);
            promise = λ tells. promise_starts start only_now (subst (λ (x : Model). StandsForKeys disks disk slots (durable_keys x) []) store_is (file tells));
            freed = λ tells. ([], refl, tt);
            caused = tt;
            allowed = λ t. tt;
          };
          counts = ap (λ (f : KeyFile D). record { faults = disks.faults f.cells.disk; device_faults = elements.faults store.opened.devices.value }) new.saw_file ∙ ap (λ (v : A). record { faults = disks.faults disk; device_faults = elements.faults v }) new.saw_devices;
        }

  -- an opening that had no memory left the disk as it was
  pub without_memory : (first : D) → IsOpeningRefused disks first first Memory
  without_memory first =
      refused_calm disks first first Memory (calm_none disks first) (for_told (disks.contents first) _ (λ image is. tt)) (λ h. absurd h) (λ h. absurd h)
