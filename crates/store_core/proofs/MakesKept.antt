-- A ranked turn that creates a key of the file.
use Rattle.store_core.proofs.Common.{[], AdmissionGhosts, Agrees, ap, AreHoldings, arith, Attributes, Bool, bytes_of, CellState, cond, counted, Course, created, DevicesGhosts, DiskGhosts, Doubt, doubt_after, doubt_by, doubt_unmade, durable_keys, Entry, false, false≢true, FaultMark, FitsRecord, full_slot, has_secure_element, HasNoKey, is_opaque, is_persistent_key, is_some, is_volatile, IsAboutToCreate, IsEntry, IsFirstWithoutKey, IsFull, IsKeyOf, IsMaking, IsMaterial, IsPut, IsSince, IsSure, IsThereOrNew, kept, Key, key_changed, KeyFile, Keys, KeySlots, last_counts, Leads, length, List, map_get, MayBeKept, Model, new_id, new_key, NoKey, None, not, Open, Opening, Option, outcome_of, Pairs, Plain, Puts, recorded, refl, replay, Rose, serve, Service, set, settled_states, SlotHasKey, Some, StandsFor, StandsForKeys, Storage, Store, Stored, stored, subst, sym, Told, true, Writing, ℕ, ◌++◌, ◌+◌, ◌∙◌, ◌∷◌, ◌≡◌, ◌≤◌, cell_count}
use Rattle.key_cells.specs.Contents as contents
use Rattle.persistent_keys.specs.declared.file.MakeFault.TheVariants.{Disk}
use Rattle.store_core.proofs.{Holding.same_device, Sure.set_sure, Removing.directory_settled, Added.none_stated, Added.few_kept, Added.puts, Added.is_new, Added.named_as_stated, Added.stated_here, Added.local_fills, Added.put_here, Added.put_kept, Added.persistent_kept, Added.directory_placed, Added.as_many_live, Added.one_more_kept, Added.made_same, Added.device_same, Changing.unmade}
use Rattle.store_core.proofs.{Checked.key_of_checked, Checked.kept_local, Checked.in_no_cell, Checked.in_no_slot, Checked.full_counts, Freeing.MovesFree, Makes.IsMakingAt, Makes.makes, Makes.marked_counts, Makes.doubted, Makes.changes_new, Makes.rose_since}

module _ {D A C : Type 0} {disks : DiskGhosts D} {elements : DevicesGhosts A} {admits : AdmissionGhosts C}
    {old : Store D A C} {caller : ℕ} {a : Attributes} {source : Option ℕ} {start : Service} {opening : Opening} {h : List Entry} {all : List Pairs} {e : Entry}
    (r : IsAboutToCreate disks elements admits old caller a source start opening h all e) where
  abbrev m : Model
  m = r.holds.model

  abbrev cells : List CellState
  cells = old.file.cells.states

  abbrev disk : D
  disk = old.file.cells.disk

  pub ready_may : MayBeKept m caller a (length r.bytes)
  ready_may = (recorded m caller r.stated (length r.bytes) a r.decided).may

  -- the bytes of a local key are in the buffer
  pub in_buffer : is_opaque a ≡ false → bytes_of old.buffer ≡ r.bytes
  in_buffer local = go source r.material where
    go : (s : Option ℕ) → IsMaterial disks elements admits old a s r.bytes → bytes_of old.buffer ≡ r.bytes
    go None is = is
    go (Some number) is = absurd (false≢true (sym local ∙ is.0))

  module _ (first : 1 ≤ caller) (last : caller ≤ 16) (persistent : is_volatile a ≡ false) where
    local : is_opaque a ≡ false
    local = kept_local a r.bytes (has_secure_element m) ready_may.checks persistent

    pub ready_key : FitsRecord a → IsKeyOf a (bytes_of old.buffer)
    ready_key fits = subst (IsKeyOf a) (sym (in_buffer local)) (key_of_checked a r.bytes (has_secure_element m) ready_may.checks persistent fits)

    none_there : map_get m.keys a.id.0 ≡ None
    none_there = none_stated m caller a r.bytes first last r.holds.sound ready_may persistent

    pub ready_cells : HasNoKey cells a.id.0
    ready_cells = in_no_cell cells m a.id.0 r.holds.directory none_there

    pub ready_slots : length old.slots.table.slots ≡ 384 → NoKey a.id.0 old.slots.table.slots
    ready_slots sized = in_no_slot old.slots.table.slots m all a.id.0 sized r.holds.slots none_there

    pub ready_room : IsFull cells → ⊥
    ready_room full =
        let many = full_counts cells m r.holds.directory r.holds.sound full in
        let few = few_kept m caller a r.bytes first last r.holds.sound ready_may persistent in
        omega arith

    module _ (only_now : (d : D) (image : List ℕ) → disks.left_since d (disks.moment d) image → disks.may_leave d image)
        (file : KeyFile D) (slots : KeySlots) (less : List Pairs) (making : IsMaking disks elements admits old start h e caller a r.bytes) (holdings : AreHoldings less) where
      abbrev number : ℕ
      number = old.found + old.ranked

      number_is : number ≡ m.found + m.calls
      number_is = let found = r.holds.found in let calls = r.holds.calls in omega arith

      bytes_are : bytes_of old.buffer ≡ r.bytes
      bytes_are = in_buffer local

      abbrev after : Model
      after = (created m caller a r.bytes).store

      abbrev own : Key
      own = new_key m caller (new_id m caller a) a r.bytes

      is_making : Told disks elements admits old start (h ++ e ∷ []) → IsMakingAt e caller a r.bytes (replay start h)
      is_making k = record { leaves = making.leaves k; answers = making.answers k }

      -- the key as the slots and the file take it
      pub stated_puts : Puts m after a.id.0 (Some own)
      stated_puts = subst (λ n. Puts m after n (Some own)) (stated_here m caller a r.bytes first last r.holds.sound ready_may persistent) (puts m caller a r.bytes first last r.holds.sound ready_may)

      pub stated_new : IsThereOrNew m a.id.0 own
      stated_new = subst (λ n. IsThereOrNew m n own) (stated_here m caller a r.bytes first last r.holds.sound ready_may persistent) (is_new m caller a r.bytes first last r.holds.sound ready_may)

      pub stated_fills : SlotHasKey (full_slot number a (bytes_of old.buffer)) own
      stated_fills =
          subst (λ n. SlotHasKey (full_slot n a (bytes_of old.buffer)) own) (sym number_is)
          (subst (λ (b : List ℕ). SlotHasKey (full_slot (m.found + m.calls) a b) own) (sym bytes_are)
          (subst (λ (x : Attributes). SlotHasKey (full_slot (m.found + m.calls) x r.bytes) own) (named_as_stated m caller a r.bytes first last r.holds.sound ready_may persistent)
          (local_fills m caller a r.bytes first last r.holds.sound ready_may local)))

      abbrev Leading : Keys → Doubt → Keys → Doubt → Type 0
      Leading keys doubt keys' doubt' = Leads disks disk file.cells.disk cells file.cells.states keys doubt keys' doubt'

      -- what the file makes of a new key
      pub record IsFiled : Type 0 where
        pub c : ℕ
        pub without : IsFirstWithoutKey cells c
        pub placed : file.cells.states ≡ set (settled_states cells) c (Open a.id.0 number)
        pub sized : length file.cells.states ≡ cell_count
        pub free : contents.StaysFreeBut cells file.cells.states
        pub tells : is_some (disks.contents file.cells.disk) ≡ is_some (disks.contents disk)
        pub leads : (keys keys' : Keys) (doubt : Doubt) → StandsForKeys disks disk cells keys doubt → IsPut keys keys' a.id.0 (Some (stored number a (bytes_of old.buffer))) → Leading keys doubt keys' []

      kept_own : kept (Some own) ≡ Some (stored number a (bytes_of old.buffer))
      kept_own = persistent_kept m caller a r.bytes first last r.holds.sound ready_may persistent
          ∙ (ap (λ (x : Attributes). Some (stored (m.found + m.calls) x r.bytes)) (named_as_stated m caller a r.bytes first last r.holds.sound ready_may persistent)
          ∙ (ap (λ n. Some (stored n a r.bytes)) (sym number_is) ∙ ap (λ (b : List ℕ). Some (stored number a b)) (sym bytes_are)))

      put_stated : IsPut (durable_keys m) (durable_keys after) a.id.0 (Some (stored number a (bytes_of old.buffer)))
      put_stated = subst (λ (k : Option Stored). IsPut (durable_keys m) (durable_keys after) a.id.0 k) kept_own
          (subst (λ n. IsPut (durable_keys m) (durable_keys after) n (kept (Some own))) (stated_here m caller a r.bytes first last r.holds.sound ready_may persistent) (put_kept m caller a r.bytes first last r.holds.sound ready_may))

      abbrev pub with_kept : Store D A C
      with_kept = record old { file = file; slots = slots; kept = old.kept + 1; ranked = old.ranked + 1 }

      pub makes_kept : IsFiled → Agrees slots.table.slots after less →
          IsEntry disks elements admits with_kept Plain e → StandsFor disks elements admits with_kept start opening (h ++ e ∷ []) less
      makes_kept f agrees is = makes disks elements admits only_now old with_kept start opening h all less e caller a r.bytes r.holds first last ready_may making.keeps is_making holdings (record {
        goes_on = record { rules = refl; limits = refl; found = refl; ranked = refl };
        places = refl;
        made = made_same m caller a r.bytes first last r.holds.sound ready_may persistent ∙ r.holds.made;
        live = λ c le. as_many_live m caller a r.bytes first last r.holds.sound ready_may persistent c ∙ r.holds.live c le;
        kept = one_more_kept m caller a r.bytes first last r.holds.sound ready_may persistent ∙ ap (λ n. n + 1) r.holds.kept;
        slots = agrees;
        directory = directory_placed m caller a r.bytes first last r.holds.sound ready_may cells file.cells.states f.c persistent r.holds.directory f.without f.sized
            (f.placed ∙ ap (λ n. set (settled_states cells) f.c (Open a.id.0 n)) number_is);
        device = device_same m caller a r.bytes first last r.holds.sound ready_may (elements.keys old.devices) local r.holds.device;
        tells = f.tells;
      }) (λ doubt stands. subst (λ b. Leading (durable_keys m) doubt (durable_keys after) (cond b doubt [])) (sym persistent) (f.leads (durable_keys m) (durable_keys after) doubt stands put_stated))
          (λ doubt sure none. set_sure cells file.cells.states f.c (Open a.id.0 number) refl f.placed)
          (subst (λ b. MovesFree (not b) false Plain cells file.cells.states) (sym persistent) f.free) is

      -- what the file makes of one that it failed to make
      pub record IsUnfiled (closed_first : Bool) : Type 0 where
        pub settled : settled_states file.cells.states ≡ settled_states cells
        pub sized : length file.cells.states ≡ cell_count
        pub free : contents.StaysFreeBut cells file.cells.states
        pub tells : is_some (disks.contents file.cells.disk) ≡ is_some (disks.contents disk)
        pub leads : (keys : Keys) (doubt : Doubt) → StandsForKeys disks disk cells keys doubt → Leading keys doubt keys (doubt_unmade (Disk closed_first) a (bytes_of old.buffer) doubt)
        pub unclosed : closed_first ≡ false → IsSure cells → ⊥
        pub rose : Rose (disks.faults disk) (disks.faults file.cells.disk)

      abbrev pub with_none : Store D A C
      with_none = record old { file = file; slots = slots; ranked = old.ranked + 1 }

      pub fails_kept : (closed_first : Bool) → IsUnfiled closed_first → Agrees slots.table.slots m less → IsSince disks elements admits old (last_counts opening.counts h) →
          IsEntry disks elements admits with_none (Storage (Writing closed_first)) e → StandsFor disks elements admits with_none start opening (h ++ e ∷ []) less
      fails_kept closed_first f agrees since is =
          (unmade disks elements admits only_now e (IsMakingAt e caller a r.bytes) (Storage (Writing closed_first)) slots old.devices r.holds (λ k. k) is_making (λ service known. marked_outcome service is.marked) agrees holdings refl
          (same_device (elements.keys old.devices) m r.holds.device)
          (rose_since (last_counts opening.counts h).faults (disks.faults disk) e.faults since.faults_since (subst (Rose (disks.faults disk)) (sym is.disk_faults) f.rose))
          (λ service known at. is_persistent_changed service known at)
          file (directory_settled cells file.cells.states m f.sized f.settled r.holds.directory) f.tells
          (λ c known at stands. subst (Leading (durable_keys m) c.doubt (durable_keys m)) (sym (doubt_is c known at)) (f.leads (durable_keys m) c.doubt stands))
          (λ c known at sure none. absurd (in_doubt closed_first c.doubt f.unclosed sure (sym (doubt_is c known at) ∙ none)))
          (λ service known at. subst (λ b. MovesFree (is_persistent_key (key_changed service e.caller e.call)) b (Storage (Writing closed_first)) cells file.cells.states) (sym making.keeps)
          (subst (λ b. MovesFree b false (Storage (Writing closed_first)) cells file.cells.states) (sym (is_persistent_changed service known at)) f.free)) is).0
        where
          marked_outcome : (service : Service) → e.mark ≡ Storage (Writing closed_first) → (outcome_of service e).service.store ≡ counted service.store
          marked_outcome service marked = ap (λ (x : FaultMark). (serve service e.caller e.call x).service.store) marked ∙ marked_counts service e.caller e.call (Storage (Writing closed_first)) tt making.keeps

          changed : (service : Service) → IsMakingAt e caller a r.bytes service → m ≡ service.store → key_changed service e.caller e.call ≡ Some own
          changed service known at =
              changes_new e making.keeps caller a r.bytes service known ∙ (ap (λ (x : Model). map_get (created x caller a r.bytes).store.keys (new_id x caller a)) (sym at) ∙ put_here m caller a r.bytes first last r.holds.sound ready_may)

          is_persistent_changed : (service : Service) → IsMakingAt e caller a r.bytes service → m ≡ service.store → is_persistent_key (key_changed service e.caller e.call) ≡ true
          is_persistent_changed service known at = ap is_persistent_key (changed service known at) ∙ ap not persistent

          doubt_of : (b : Bool) (doubt : Doubt) → doubt_by (Storage (Writing b)) false (stored number a (bytes_of old.buffer)) doubt ≡ doubt_unmade (Disk b) a (bytes_of old.buffer) doubt
          doubt_of true doubt = refl
          doubt_of false doubt = refl

          -- it is in doubt itself, or a key was before
          in_doubt : (b : Bool) (doubt : Doubt) → (b ≡ false → IsSure cells → ⊥) → (doubt ≡ [] → IsSure cells) → doubt_unmade (Disk b) a (bytes_of old.buffer) doubt ≡ [] → ⊥
          in_doubt true doubt unclosed sure none = cc
          in_doubt false doubt unclosed sure none = unclosed refl (sure none)

          doubt_is : (c : Course) → IsMakingAt e caller a r.bytes c.service → m ≡ c.service.store → doubt_after e c ≡ doubt_unmade (Disk closed_first) a (bytes_of old.buffer) c.doubt
          doubt_is c known at = doubted e making.keeps c (Storage (Writing closed_first)) (Some own) (Some (stored number a (bytes_of old.buffer))) is.marked (changed c.service known at) kept_own ∙ doubt_of closed_first c.doubt
