-- A turn that copies a key.
use Rattle.store_core.proofs.Common.{[], AdmissionGhosts, Agrees, ap, AreHoldings, Attributes, Bool, Buffer, buffer_of, bytes-buffer_of, bytes_of, cond, Copy, Corrupt, created_unless, DevicesGhosts, Disk, DiskGhosts, Entry, Err, false, FaultCounts, HasModel, Holds, HoldsHandle, id_read, if◌then◌else◌, inl, InvalidHandle, is_destruction, is_opaque, is_persistent_key, is_some, IsAboutToCreate, IsEntry, IsErrOf, IsMaking, IsMaterial, IsRefused, IsTold, Key, KeySlots, length, List, map_get, mark_of, Missing, Model, None, Ok, OnStore, Opening, Option, Outcome, Pairs, plain_step, Reading, reads_persistent, recorded_copy, recorded_of, refl, replay, Request, Result, Rose, Service, Slot, SlotHasKey, Some, StandsFor, Status, status_of, Storage, Store, subst, sym, there_rows, true, Unread, ℕ, ◌++◌, ◌+◌, ◌∙◌, ◌∷◌, ◌≡◌}
use Rattle.store_model.specs.KeyUse as key_use
use Rattle.store_model.specs.Faults as fault
use Rattle.store_core.proofs.{Holding.has_model, Holding.with_buffer, Loading.reads_it, Makes.IsRefusedAt, Copied.copies, Finishing.refuses, Finishing.unread}

-- the bytes of the key of an identifier
abbrev pub bytes_at : Model → ℕ → List ℕ
bytes_at m id = key_use.bytes_of_key (map_get m.keys id)

-- what a copy records of it
abbrev pub copied_at : Model → (caller source : ℕ) → Attributes → Result Attributes Status
copied_at m caller source stated = recorded_copy m caller (map_get m.keys source) stated

module _ (e : Entry) (caller source : ℕ) (stated : Attributes) (by : e.caller ≡ caller) (call : e.call ≡ OnStore (Copy source stated)) where
  pub keeps : is_destruction e.call ≡ false
  keeps = ap is_destruction call

  pub reads_source : (service : Service) → id_read service e.caller e.call ≡ Some source
  reads_source service = ap (id_read service e.caller) call

  copy_store : (service : Service) → (plain_step service e.caller e.call).service.store ≡ (created_unless service.store caller (copied_at service.store caller source stated) (bytes_at service.store source)).store
  copy_store service = ap (λ (r : Request). (plain_step service e.caller r).service.store) call ∙ ap (λ c. (created_unless service.store c (copied_at service.store c source stated) (bytes_at service.store source)).store) by

  copy_reply : (service : Service) → (plain_step service e.caller e.call).reply ≡ (created_unless service.store caller (copied_at service.store caller source stated) (bytes_at service.store source)).reply
  copy_reply service = ap (λ (r : Request). (plain_step service e.caller r).reply) call ∙ ap (λ c. (created_unless service.store c (copied_at service.store c source stated) (bytes_at service.store source)).reply) by

  -- the outcome by a store that is the service's
  outcome_is : {X : Type 0} (f : Outcome → X) (service : Service) (m : Model) (recorded : Result Attributes Status) (bytes : List ℕ) → m ≡ service.store → copied_at m caller source stated ≡ recorded → bytes_at m source ≡ bytes →
      f (created_unless service.store caller (copied_at service.store caller source stated) (bytes_at service.store source)) ≡ f (created_unless service.store caller recorded bytes)
  outcome_is f service m recorded bytes same decided own =
      ap (λ (r : Result Attributes Status). f (created_unless service.store caller r (bytes_at service.store source))) (ap (λ (x : Model). copied_at x caller source stated) (sym same) ∙ decided)
      ∙ ap (λ (b : List ℕ). f (created_unless service.store caller recorded b)) (ap (λ (x : Model). bytes_at x source) (sym same) ∙ own)

  pub refused_copy : (service : Service) (m : Model) (status : Status) → m ≡ service.store → copied_at m caller source stated ≡ Err status → IsRefusedAt e status service
  refused_copy service m status same decided = record {
    leaves = copy_store service ∙ outcome_is (λ (o : Outcome). o.store) service m (Err status) (bytes_at m source) same decided refl;
    answers = copy_reply service ∙ outcome_is (λ (o : Outcome). o.reply) service m (Err status) (bytes_at m source) same decided refl;
  }

  module _ {D A C : Type 0} (disks : DiskGhosts D) (elements : DevicesGhosts A) (admits : AdmissionGhosts C)
      (mid : Store D A C) (start : Service) (opening : Opening) (h : List Entry) (all : List Pairs)
      (n : Holds disks elements admits (IsTold (disks.contents mid.file.cells.disk) start (h ++ e ∷ [])) mid start opening h all) where
    pub reads_kept : is_persistent_key (map_get n.model.keys source) ≡ true → IsTold (disks.contents mid.file.cells.disk) start (h ++ e ∷ []) → reads_persistent (replay start h) e.caller e.call ≡ true
    reads_kept is k = reads_it (replay start h) e.caller e.call source n.model (reads_source (replay start h)) (n.replayed k) ∙ is

    pub refused_here : (status : Status) → copied_at n.model caller source stated ≡ Err status → IsTold (disks.contents mid.file.cells.disk) start (h ++ e ∷ []) → IsRefusedAt e status (replay start h)
    refused_here status decided k = refused_copy (replay start h) n.model status (n.replayed k) decided

    -- THE COPY OF A SLOT'S KEY

    module _ (slot : Slot) (key : Key) (there : map_get n.model.keys source ≡ Some key) (has : SlotHasKey slot key) (recorded : Attributes) (decided : Ok recorded ≡ recorded_copy n.model caller (Some key) stated)
        (buffer : Buffer) (filled : buffer ≡ buffer_of (bytes_of slot.buffer)) where
      abbrev pub material_of : Option ℕ
      material_of = if is_opaque slot.attributes then Some slot.creation else None

      abbrev pub filled_store : Store D A C
      filled_store = record mid { buffer = buffer }

      pub decided_here : copied_at n.model caller source stated ≡ Ok recorded
      decided_here = ap (λ (o : Option Key). recorded_copy n.model caller o stated) there ∙ sym decided

      pub material : IsMaterial disks elements admits filled_store recorded material_of key.bytes
      material = go (is_opaque slot.attributes) (ap is_opaque has.attributes) where
        own : is_opaque recorded ≡ is_opaque key.attributes
        own = (copies n.model caller key stated recorded (sym decided)).opaque

        go : (b : Bool) → b ≡ is_opaque key.attributes → IsMaterial disks elements admits filled_store recorded (cond b (Some slot.creation) None) key.bytes
        go true is = (
          own ∙ sym is,
          subst (λ number. HoldsHandle (elements.keys mid.devices) number (λ h. h ≡ record { key_type = recorded.key_type.0; bytes = key.bytes })) (sym has.number)
              (subst (λ t. HoldsHandle (elements.keys mid.devices) key.number (λ h. h ≡ record { key_type = t; bytes = key.bytes })) (sym (ap (λ (t : _). t.0) (copies n.model caller key stated recorded (sym decided)).key_type))
              (n.device.there source key there (sym is))),
        )
        go false is = ap bytes_of filled ∙ (bytes-buffer_of (bytes_of slot.buffer) ∙ (has.bytes ∙ ap (λ b. cond b [] key.bytes) (sym is)))

      abbrev pub ready : IsAboutToCreate disks elements admits filled_store caller recorded material_of start opening h all e
      ready =
          let c = copies n.model caller key stated recorded (sym decided) in
          let f = with_buffer disks elements admits (IsTold (disks.contents mid.file.cells.disk) start (h ++ e ∷ [])) mid buffer start opening h all inl n in
          record { holds = f.0; bytes = key.bytes; material = material; stated = c.copy; decided = subst (λ (m : Model). recorded_of m caller c.copy (length key.bytes) ≡ Ok recorded) (sym f.1) c.decided }

      pub making : IsMaking disks elements admits filled_store start h e caller recorded key.bytes
      making = record {
        by = by;
        keeps = keeps;
        leaves = λ k. copy_store (replay start h) ∙ outcome_is (λ (o : Outcome). o.store) (replay start h) n.model (Ok recorded) key.bytes (n.replayed k) decided_here (ap key_use.bytes_of_key there);
        answers = λ k. copy_reply (replay start h) ∙ outcome_is (λ (o : Outcome). o.reply) (replay start h) n.model (Ok recorded) key.bytes (n.replayed k) decided_here (ap key_use.bytes_of_key there);
      }

-- A SOURCE THAT WASN'T FOUND

abbrev IsWhy : Unread → Unread → Type 0
IsWhy why other = IsErrOf {T = ℕ} {E = Unread} (Err why) other

pub either : (why : Unread) (X : Type 0) → (IsWhy why Missing → X) → ((IsWhy why Missing → ⊥) → X) → X
either Missing X missing unread = missing refl
either Disk X missing unread = unread (λ e. cc)
either Corrupt X missing unread = unread (λ e. cc)

module _ {D A C : Type 0} (disks : DiskGhosts D) (elements : DevicesGhosts A) (admits : AdmissionGhosts C)
    (only_now : (disk : D) (image : List ℕ) → disks.left_since disk (disks.moment disk) image → disks.may_leave disk image)
    (old mid : Store D A C) (slots : KeySlots) (start : Service) (opening : Opening) (h : List Entry) (all less : List Pairs) (e : Entry) (caller source : ℕ) (stated : Attributes) (by : e.caller ≡ caller) (call : e.call ≡ OnStore (Copy source stated))
    (s : StandsFor disks elements admits old start opening h all) (agrees : (m : Model) → Agrees mid.slots.table.slots m all → Agrees slots.table.slots m less) (law : AreHoldings less) where
  abbrev Brought : (Model → Type 0) → Type 0
  Brought P = (n : Holds disks elements admits (IsTold (disks.contents mid.file.cells.disk) start (h ++ e ∷ [])) mid start opening h all) × P n.model

  abbrev ended : Store D A C
  ended = record mid { slots = slots; ranked = mid.ranked + 1 }

  abbrev Ends : (Model → Type 0) → Type 0
  Ends P = StandsFor disks elements admits ended start opening (h ++ e ∷ []) less × HasModel (IsTold (disks.contents mid.file.cells.disk) start (h ++ e ∷ [])) start h P

  pub uncopied : (why : Unread) → (IsWhy why Missing → Brought (λ m. map_get m.keys source ≡ None)) → ((IsWhy why Missing → ⊥) → Brought (λ m. is_persistent_key (map_get m.keys source) ≡ true)) →
      (IsWhy why Disk → Rose (disks.faults old.file.cells.disk) (disks.faults mid.file.cells.disk)) → (IsWhy why Corrupt → is_some (disks.contents mid.file.cells.disk) ≡ false) →
      IsEntry disks elements admits ended (mark_of (status_of why)) e → Ends (IsRefused there_rows source (status_of why))
  uncopied Missing missing not_read rose blind is =
      let n = missing refl in (
        refuses disks elements admits only_now mid slots start opening h all less e (keeps e caller source stated by call) InvalidHandle n.0
            (refused_here e caller source stated by call disks elements admits mid start opening h all n.0 InvalidHandle (ap (λ (o : Option Key). recorded_copy n.0.model caller o stated) n.1)) (agrees n.0.model n.0.slots) law is,
        has_model disks elements admits n.0 (λ k. k) (ap there_rows n.1),
      )
  uncopied Disk missing not_read rose blind is =
      let n = not_read (λ e. cc) in (
        unread disks elements admits only_now mid slots start opening h all less e (keeps e caller source stated by call) (Storage Reading) tt n.0
            (reads_kept e caller source stated by call disks elements admits mid start opening h all n.0 n.1) (agrees n.0.model n.0.slots) law
            (subst (Rose _) (sym is.disk_faults) (subst (λ (f : ℕ). Rose f (disks.faults mid.file.cells.disk)) (sym (ap (λ (c : FaultCounts). c.faults) s.counts)) (rose refl))) is,
        has_model disks elements admits n.0 (λ k. k) n.1,
      )
  uncopied Corrupt missing not_read rose blind is =
      let n = not_read (λ e. cc) in (
        unread disks elements admits only_now mid slots start opening h all less e (keeps e caller source stated by call) fault.Corrupt tt n.0
            (reads_kept e caller source stated by call disks elements admits mid start opening h all n.0 n.1) (agrees n.0.model n.0.slots) law (blind refl) is,
        has_model disks elements admits n.0 (λ k. k) n.1,
      )
