-- A ranked turn that creates a volatile key, in memory or in the device.
use Rattle.store_core.proofs.Common.{[], AdmissionGhosts, Agrees, ap, AreHoldings, arith, asks_device, Attributes, Buffer, bytes_of, cond, Course, created, DevicesGhosts, DiskGhosts, Doubt, doubt_after, durable_keys, Entry, false, FaultMark, first_volatile, full_slot, Hardware, has_element, has_secure_element, HeldKey, HeldKeys, HoldsHandle, HoldsKeys, identified, IfSome, inr, is_destruction, is_key_type, is_opaque, is_opaque_key, is_persistent_key, is_volatile, IsAboutToCreate, IsEntry, IsMaking, IsMaterial, IsSince, IsSomeKey, IsThereOrNew, Key, key_changed, KeySlots, Lacks, last_counts, Leads, length, List, map_get, MayBeKept, Model, new_id, new_key, NoKey, None, not, Opening, Option, option_map, Pairs, permits_size, Plain, Puts, refl, replay, Rose, serve, Service, slice_index, slice_set, SlotHasKey, Some, StandsFor, stays, Store, stored, subst, sym, Told, true, with_copy, with_held_key, with_key_or_same, ℕ, ⊤, ◌++◌, ◌+◌, ◌<◌, ◌^◌, ◌||◌, ◌∙◌, ◌∷◌, ◌≡◌, ◌≤◌, ◌⊎◌}
use Rattle.driver_dispatch.specs.Held as held_keys
use Rattle.store_core.proofs.{Added.none_here, Added.puts, Added.is_new, Added.put_here, Added.volatile_id, Added.few_live, Added.few_made, Added.made_here, Added.live_here, Added.volatile_kept, Added.as_many_kept, Added.directory_same, Added.device_same, Added.device_gains, Added.device_failed, Added.local_fills, Added.opaque_fills, Destroyed.holds_some, Changing.unmade}
use Rattle.store_core.proofs.{Checked.known_type, Checked.known_size, Checked.element_is, Checked.in_no_slot, Freeing.MovesFree, Freeing.unmoved, Makes.IsMakingAt, Makes.makes, Makes.marked_counts, Makes.doubted, Makes.changes_new, Makes.rose_since, MakesKept.ready_may, MakesKept.in_buffer}

module _ {D A C : Type 0} {disks : DiskGhosts D} {elements : DevicesGhosts A} {admits : AdmissionGhosts C}
    {old : Store D A C} {caller : ℕ} {a : Attributes} {source : Option ℕ} {start : Service} {opening : Opening} {h : List Entry} {all : List Pairs} {e : Entry}
    (r : IsAboutToCreate disks elements admits old caller a source start opening h all e) (first : 1 ≤ caller) (last : caller ≤ 16) (volatile : is_volatile a ≡ true) where
  abbrev m : Model
  m = r.holds.model

  abbrev disk : D
  disk = old.file.cells.disk

  abbrev may : MayBeKept m caller a (length r.bytes)
  may = ready_may r

  abbrev number : ℕ
  number = old.found + old.ranked

  number_is : number ≡ m.found + m.calls
  number_is = let found = r.holds.found in let calls = r.holds.calls in omega arith

  abbrev after : Model
  after = (created m caller a r.bytes).store

  abbrev own : Key
  own = new_key m caller (new_id m caller a) a r.bytes

  -- the caller's next identifier, by the store's own count
  abbrev next : ℕ
  next = first_volatile caller + slice_index old.made caller

  pub next_is : new_id m caller a ≡ next
  next_is = volatile_id m caller a r.bytes first last r.holds.sound may volatile ∙ ap (λ (l : List ℕ). first_volatile caller + slice_index l caller) r.holds.made

  pub ready_live : slice_index old.live caller < 16
  ready_live = let few = few_live m caller a r.bytes first last r.holds.sound may volatile in let is = r.holds.live caller last in omega arith

  pub ready_made : slice_index old.made caller < 2 ^ 20
  ready_made = subst (λ (l : List ℕ). slice_index l caller < 2 ^ 20) r.holds.made (few_made m caller a r.bytes first last r.holds.sound may volatile)

  pub ready_slots : length old.slots.table.slots ≡ 384 → NoKey next old.slots.table.slots
  ready_slots sized = in_no_slot old.slots.table.slots m all next sized r.holds.slots (ap (map_get m.keys) (sym next_is) ∙ none_here m caller a r.bytes first last r.holds.sound may)

  pub next_puts : Puts m after next (Some own)
  next_puts = subst (λ n. Puts m after n (Some own)) next_is (puts m caller a r.bytes first last r.holds.sound may)

  pub next_new : IsThereOrNew m next own
  next_new = subst (λ n. IsThereOrNew m n own) next_is (is_new m caller a r.bytes first last r.holds.sound may)

  pub local_takes : is_opaque a ≡ false → SlotHasKey (full_slot number (identified a next) (bytes_of old.buffer)) own
  local_takes local =
      subst (λ n. SlotHasKey (full_slot n (identified a next) (bytes_of old.buffer)) own) (sym number_is)
      (subst (λ n. SlotHasKey (full_slot (m.found + m.calls) (identified a n) (bytes_of old.buffer)) own) next_is
      (subst (λ (b : List ℕ). SlotHasKey (full_slot (m.found + m.calls) (identified a (new_id m caller a)) b) own) (sym (in_buffer r local))
      (local_fills m caller a r.bytes first last r.holds.sound may local)))

  pub opaque_takes : is_opaque a ≡ true → SlotHasKey (full_slot number (identified a next) []) own
  opaque_takes opaque =
      subst (λ n. SlotHasKey (full_slot n (identified a next) []) own) (sym number_is)
      (subst (λ n. SlotHasKey (full_slot (m.found + m.calls) (identified a n) []) own) next_is (opaque_fills m caller a r.bytes first last r.holds.sound may opaque))

  -- WHAT THE DEVICE IS GIVEN

  abbrev known_devices : Option HeldKeys
  known_devices = elements.keys old.devices

  abbrev held_key : HeldKey
  held_key = record { key_type = a.key_type.0; bytes = r.bytes }

  pub ready_element : is_opaque a ≡ true → has_element (elements.locations old.devices) ≡ true
  ready_element opaque = ap has_element (sym r.holds.locations_are) ∙ element_is a r.bytes (has_secure_element m) may.checks opaque

  pub ready_handle : Lacks known_devices number
  ready_handle = r.holds.device.new number (let is = number_is in omega arith)

  pub ready_type : is_key_type a.key_type.0 ≡ true
  ready_type = known_type a r.bytes (has_secure_element m) may.checks

  pub ready_size : source ≡ None → permits_size a.key_type.0 (length (bytes_of old.buffer)) ≡ true
  ready_size none = ap (λ (b : List ℕ). permits_size a.key_type.0 (length b)) (from source none r.material) ∙ known_size a r.bytes (has_secure_element m) may.checks where
    from : (s : Option ℕ) → s ≡ None → IsMaterial disks elements admits old a s r.bytes → bytes_of old.buffer ≡ r.bytes
    from None none is = is
    from (Some number) none is = cc

  pub ready_source : IfSome source (λ from. HoldsHandle known_devices from (λ key. ⊤))
  ready_source = go source r.material where
    go : (s : Option ℕ) → IsMaterial disks elements admits old a s r.bytes → IfSome s (λ from. HoldsHandle known_devices from (λ key. ⊤))
    go None is = tt
    go (Some number) is = holds_some known_devices number (λ h. h ≡ held_key) is.1

  -- a copy within the device gives it the same key
  copied : (from : ℕ) → HoldsHandle known_devices from (λ h. h ≡ held_key) → option_map (with_copy from number) known_devices ≡ option_map (with_held_key number held_key) known_devices
  copied from is = go known_devices is where
    chosen : (keys : HeldKeys) (o : Option HeldKey) → IsSomeKey o (λ h. h ≡ held_key) → Some (with_key_or_same number o keys) ≡ Some (with_held_key number held_key keys)
    chosen keys None is = absurd is
    chosen keys (Some key) is = ap (λ (k : HeldKey). Some (with_held_key number k keys)) is

    go : (o : Option HeldKeys) → HoldsHandle o from (λ h. h ≡ held_key) → option_map (with_copy from number) o ≡ option_map (with_held_key number held_key) o
    go None is = refl
    go (Some keys) is = chosen keys (held_keys.held_key keys from) is

  -- what a device has after it took the key, and after it failed to
  pub is_taken : (now : Option HeldKeys) (given_bytes : List ℕ) → given_bytes ≡ bytes_of old.buffer → (source ≡ None → now ≡ option_map (with_held_key number (record { key_type = a.key_type.0; bytes = given_bytes })) known_devices) →
      IfSome source (λ from. now ≡ option_map (with_copy from number) known_devices) → now ≡ option_map (with_held_key number held_key) known_devices
  is_taken now given_bytes same given copies = go source refl r.material copies where
    go : (s : Option ℕ) → source ≡ s → IsMaterial disks elements admits old a s r.bytes → IfSome s (λ from. now ≡ option_map (with_copy from number) known_devices) →
        now ≡ option_map (with_held_key number held_key) known_devices
    go None is material copies = given is ∙ ap (λ (b : List ℕ). option_map (with_held_key number (record { key_type = a.key_type.0; bytes = b })) known_devices) (same ∙ material)
    go (Some from) is material copies = copies ∙ copied from material.1

  abbrev IsEither : (before change now : Option HeldKeys) → Type 0
  IsEither before change now = (now ≡ before) ⊎ (now ≡ change)

  pub is_either : (now : Option HeldKeys) (given_bytes : List ℕ) → given_bytes ≡ bytes_of old.buffer → (source ≡ None → IsEither known_devices (option_map (with_held_key number (record { key_type = a.key_type.0; bytes = given_bytes })) known_devices) now) →
      IfSome source (λ from. IsEither known_devices (option_map (with_copy from number) known_devices) now) → IsEither known_devices (option_map (with_held_key number held_key) known_devices) now
  is_either now given_bytes same given copies = go source refl r.material copies where
    go : (s : Option ℕ) → source ≡ s → IsMaterial disks elements admits old a s r.bytes → IfSome s (λ from. IsEither known_devices (option_map (with_copy from number) known_devices) now) →
        IsEither known_devices (option_map (with_held_key number held_key) known_devices) now
    go None is material copies = subst (λ (b : List ℕ). IsEither known_devices (option_map (with_held_key number (record { key_type = a.key_type.0; bytes = b })) known_devices) now) (same ∙ material) (given is)
    go (Some from) is material copies = subst (λ (x : Option HeldKeys). IsEither known_devices x now) (copied from material.1) copies

  module _ (only_now : (d : D) (image : List ℕ) → disks.left_since d (disks.moment d) image → disks.may_leave d image)
      (devices : A) (slots : KeySlots) (buffer : Buffer) (less : List Pairs) (making : IsMaking disks elements admits old start h e caller a r.bytes) (holdings : AreHoldings less) where
    is_making : Told disks elements admits old start (h ++ e ∷ []) → IsMakingAt e caller a r.bytes (replay start h)
    is_making k = record { leaves = making.leaves k; answers = making.answers k }

    abbrev Leading : Doubt → Model → Doubt → Type 0
    Leading doubt m' doubt' = Leads disks disk disk old.file.cells.states old.file.cells.states (durable_keys m) doubt (durable_keys m') doubt'

    abbrev pub with_volatile : Store D A C
    with_volatile = record old {
      slots = slots;
      devices = devices;
      made = slice_set old.made caller (slice_index old.made caller + 1);
      live = slice_set old.live caller (slice_index old.live caller + 1);
      buffer = buffer;
      ranked = old.ranked + 1;
    }

    pub makes_volatile : length old.live ≡ 17 → elements.locations devices ≡ elements.locations old.devices → HoldsKeys (elements.keys devices) after → Agrees slots.table.slots after less →
        IsEntry disks elements admits with_volatile Plain e → StandsFor disks elements admits with_volatile start opening (h ++ e ∷ []) less
    makes_volatile sized places device agrees is = makes disks elements admits only_now old with_volatile start opening h all less e caller a r.bytes r.holds first last may making.keeps is_making holdings (record {
      goes_on = record { rules = refl; limits = refl; found = refl; ranked = refl };
      places = places;
      made = made_here m caller a r.bytes first last r.holds.sound may volatile old.made r.holds.made;
      live = live_here m caller a r.bytes first last r.holds.sound may volatile old.live sized r.holds.live;
      kept = as_many_kept m caller a r.bytes first last r.holds.sound may volatile ∙ r.holds.kept;
      slots = agrees;
      directory = directory_same m caller a r.bytes first last r.holds.sound may old.file.cells.states volatile r.holds.directory;
      device = device;
      tells = refl;
    }) (λ doubt stands. subst (λ b. Leading doubt after (cond b doubt [])) (sym volatile)
        (stays disks disk old.file.cells.states (durable_keys m) (durable_keys after) doubt (volatile_kept m caller a r.bytes first last r.holds.sound may volatile) stands))
        (λ doubt sure none. sure (subst (λ b. cond b doubt [] ≡ []) volatile none))
        (subst (λ b. MovesFree (not b) false Plain old.file.cells.states old.file.cells.states) (sym volatile) (λ cell lt free. free)) is

    -- a key that no device is to hold
    pub local_device : is_opaque a ≡ false → elements.keys devices ≡ elements.keys old.devices → HoldsKeys (elements.keys devices) after
    local_device local same = subst (λ (x : Option HeldKeys). HoldsKeys x after) (sym same) (device_same m caller a r.bytes first last r.holds.sound may (elements.keys old.devices) local r.holds.device)

    -- and one that it took
    pub taken_device : elements.keys devices ≡ option_map (with_held_key number held_key) (elements.keys old.devices) → HoldsKeys (elements.keys devices) after
    taken_device more = subst (λ (x : Option HeldKeys). HoldsKeys x after) (sym more)
        (subst (λ n. HoldsKeys (option_map (with_held_key n held_key) (elements.keys old.devices)) after) (sym number_is) (device_gains m caller a r.bytes first last r.holds.sound may (elements.keys old.devices) r.holds.device))

    abbrev pub with_failed : Store D A C
    with_failed = record old { slots = slots; devices = devices; ranked = old.ranked + 1 }

    -- the device failed
    pub fails_volatile : is_opaque a ≡ true → elements.locations devices ≡ elements.locations old.devices → ((elements.keys devices ≡ elements.keys old.devices) ⊎ (elements.keys devices ≡ option_map (with_held_key number held_key) (elements.keys old.devices))) →
        Rose (elements.faults old.devices) (elements.faults devices) → Agrees slots.table.slots m less → IsSince disks elements admits old (last_counts opening.counts h) →
        IsEntry disks elements admits with_failed Hardware e → StandsFor disks elements admits with_failed start opening (h ++ e ∷ []) less
    fails_volatile opaque places changes rose agrees since is =
        (unmade disks elements admits only_now e (IsMakingAt e caller a r.bytes) Hardware slots devices r.holds (λ k. k) is_making
        (λ service known. ap (λ (x : FaultMark). (serve service e.caller e.call x).service.store) is.marked ∙ marked_counts service e.caller e.call Hardware tt making.keeps) agrees holdings places
        (device_failed m caller a r.bytes first last r.holds.sound may (elements.keys old.devices) (elements.keys devices)
        (subst (λ n. (elements.keys devices ≡ elements.keys old.devices) ⊎ (elements.keys devices ≡ option_map (with_held_key n held_key) (elements.keys old.devices))) number_is changes) r.holds.device)
        (rose_since (last_counts opening.counts h).device_faults (elements.faults old.devices) e.device_faults since.device_faults_since (subst (Rose (elements.faults old.devices)) (sym is.device_faults) rose))
        (λ service known at. ap (λ b. b || asks_device service e.caller e.call) (ap is_opaque_key (changed service known at) ∙ opaque)) old.file r.holds.directory refl
        (λ c known at stands. subst (Leading c.doubt m) (sym (doubt_is c known at)) (stays disks disk old.file.cells.states (durable_keys m) (durable_keys m) c.doubt (λ q. refl) stands))
        (λ c known at sure none. sure (sym (doubt_is c known at) ∙ none))
        (λ service known at. unmoved (is_persistent_key (key_changed service e.caller e.call)) (is_destruction e.call) Hardware old.file.cells.states (inr making.keeps)) is).0
      where
        changed : (service : Service) → IsMakingAt e caller a r.bytes service → m ≡ service.store → key_changed service e.caller e.call ≡ Some own
        changed service known at =
            changes_new e making.keeps caller a r.bytes service known ∙ (ap (λ (x : Model). map_get (created x caller a r.bytes).store.keys (new_id x caller a)) (sym at) ∙ put_here m caller a r.bytes first last r.holds.sound may)

        doubt_is : (c : Course) → IsMakingAt e caller a r.bytes c.service → m ≡ c.service.store → doubt_after e c ≡ c.doubt
        doubt_is c known at = doubted e making.keeps c Hardware (Some own) None is.marked (changed c.service known at) (ap (λ b. cond b None (Some (stored own.number own.attributes own.bytes))) volatile)
