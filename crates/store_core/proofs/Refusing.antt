-- A ranked turn that looked for a key.
use Rattle.store_core.proofs.Common.{[], AdmissionGhosts, Agrees, ap, AreHoldings, arith, Corrupt, counted, DevicesGhosts, Disk, DiskGhosts, Entry, Err, false, FaultCounts, FaultMark, few_of_one, GetAttributes, Holds, InvalidHandle, is_persistent_key, is_some, IsEntry, IsErrOf, IsReading, IsRefused, IsTold, Key, KeySlots, KeyUse, List, map_get, mark_of, Missing, Model, None, OnStore, Opening, Option, Pairs, Plain, readers_out, reads_persistent, refl, refused_so, replay, Rose, Service, Slot, slot_at, Some, StandsFor, Status, status_of, Store, subst, sym, true, Unread, use_refusal, ℕ, ◌++◌, ◌-◌, ◌<◌, ◌^◌, ◌∙◌, ◌∷◌, ◌≡◌}
use Rattle.store_core.proofs.{Histories.told_before, Histories.quiet_leaves, Holding.turned, Changing.ends_quiet, Loading.reads_it}

-- a search ended so
abbrev IsWhy : Unread → Unread → Type 0
IsWhy why other = IsErrOf {T = ℕ} {E = Unread} (Err why) other

-- a status of which no device is the cause
abbrev pub IsPlain : Status → Type 0
IsPlain status = (mark_of status ≡ Plain) × ((rows : Option Key → Option Status) (id : ℕ) (m : Model) → rows (map_get m.keys id) ≡ Some status → IsRefused rows id status m)

pub use_plain : (wanted : KeyUse) (found : Option Key) (status : Status) → use_refusal wanted found ≡ Some status → IsPlain status
use_plain = refused_so IsPlain (refl, λ rows id m is. is) (refl, λ rows id m is. is) (refl, λ rows id m is. is) (refl, λ rows id m is. is)

-- few read a slot
pub few_readers : (slots : List Slot) (m : Model) (all : List Pairs) (i : ℕ) → Agrees slots m all → AreHoldings all → i < 384 → (slot_at slots i).readers < 2 ^ 32 - 1
few_readers slots m all i a law inside =
    let few = few_of_one all i (slot_at slots i).creation law in
    let read = readers_out slots m all i inside a in
    omega arith

-- an entry that asks for a key
abbrev pub asks_for : ℕ → Entry
asks_for id = record { caller = 1; call = OnStore (GetAttributes id); mark = Plain; done = 0; faults = 0; device_faults = 0 }

module _ {D A C : Type 0} (disks : DiskGhosts D) (elements : DevicesGhosts A) (admits : AdmissionGhosts C)
    (only_now : (disk : D) (image : List ℕ) → disks.left_since disk (disks.moment disk) image → disks.may_leave disk image)
    (old mid : Store D A C) (start : Service) (opening : Opening) (h : List Entry) (all : List Pairs) (e : Entry) (id : ℕ) where
  abbrev new : Store D A C
  new = turned disks elements admits mid mid.slots

  -- what was brought
  abbrev Brought : (Model → Type 0) → Type 0
  Brought P = (n : Holds disks elements admits (IsTold (disks.contents mid.file.cells.disk) start (h ++ e ∷ [])) mid start opening h all) × P n.model

  abbrev SameTold : Type 0
  SameTold = disks.contents mid.file.cells.disk ≡ disks.contents old.file.cells.disk

  -- the entry reads a persistent key
  read_persistent : SameTold → IsReading disks elements admits old start h e id → Brought (λ m. is_persistent_key (map_get m.keys id) ≡ true) →
      IsTold (disks.contents mid.file.cells.disk) start (h ++ e ∷ []) → reads_persistent (replay start h) e.caller e.call ≡ true
  read_persistent same is n k =
      let known = told_before (disks.contents old.file.cells.disk) start h e (subst (λ (t : Option (List ℕ)). IsTold t start (h ++ e ∷ [])) same k) in
      reads_it (replay start h) e.caller e.call id n.0.model (is.reads known) (n.0.replayed k) ∙ n.1

  -- the turn ends with what was brought
  abbrev pub Ends : (Model → Type 0) → Type 0
  Ends P = (n : StandsFor disks elements admits new start opening (h ++ e ∷ []) all) × P n.holds.model

  -- its key was found, and is lent or not
  pub ends_found : (slots : KeySlots) (more : List Pairs) (P : Model → Type 0) → IsReading disks elements admits old start h e id →
      (n : Holds disks elements admits (IsTold (disks.contents mid.file.cells.disk) start (h ++ e ∷ [])) mid start opening h all) → P (counted n.model) → Agrees slots.table.slots n.model more → AreHoldings more →
      IsEntry disks elements admits (turned disks elements admits mid slots) Plain e →
      (after : StandsFor disks elements admits (turned disks elements admits mid slots) start opening (h ++ e ∷ []) more) × P after.holds.model
  ends_found slots more P is n holds agrees holdings turn =
      let ends = ends_quiet disks elements admits only_now e Plain slots n (λ k. k) agrees holdings tt (λ k. tt) (quiet_leaves disks elements admits mid start h e is.quiet) turn in
      (ends.0, subst P (sym ends.1) holds)

  -- a row refuses it
  pub ends_refused : (rows : Option Key → Option Status) (status : Status) (Q : Model → Type 0) → IsPlain status → IsReading disks elements admits old start h e id →
      (n : Holds disks elements admits (IsTold (disks.contents mid.file.cells.disk) start (h ++ e ∷ [])) mid start opening h all) → rows (map_get n.model.keys id) ≡ Some status → Q (counted n.model) →
      IsEntry disks elements admits new (mark_of status) e → Ends (λ m. IsRefused rows id status m × Q m)
  ends_refused rows status Q plain is n refused also turn =
      ends_found mid.slots all (λ m. IsRefused rows id status m × Q m) is n (plain.1 rows id (counted n.model) refused, also) n.slots n.holdings
      (subst (λ (mark : FaultMark). IsEntry disks elements admits new mark e) plain.0 turn)

  -- its key is not there, or could not be read
  pub ends_unread : (rows : Option Key → Option Status) (why : Unread) → rows None ≡ Some InvalidHandle → SameTold →
      StandsFor disks elements admits old start opening h all → IsReading disks elements admits old start h e id →
      (IsWhy why Missing → Brought (λ m. map_get m.keys id ≡ None)) → ((IsWhy why Missing → ⊥) → Brought (λ m. is_persistent_key (map_get m.keys id) ≡ true)) →
      (IsWhy why Disk → Rose (disks.faults old.file.cells.disk) (disks.faults mid.file.cells.disk)) → (IsWhy why Corrupt → is_some (disks.contents mid.file.cells.disk) ≡ false) →
      IsEntry disks elements admits new (mark_of (status_of why)) e → Ends (IsRefused rows id (status_of why))
  ends_unread rows Missing none same s is missing unread rose blind turn =
      let n = missing refl in
      let ends = ends_quiet disks elements admits only_now e _ mid.slots n.0 (λ k. k) n.0.slots n.0.holdings tt (λ k. tt) (quiet_leaves disks elements admits mid start h e is.quiet) turn in
      (ends.0, subst (λ (m : Model). rows (map_get m.keys id) ≡ Some InvalidHandle) (sym ends.1) (ap rows n.1 ∙ none))
  ends_unread rows Disk none same s is missing unread rose blind turn =
      let n = unread (λ e. cc) in
      let ends = ends_quiet disks elements admits only_now e _ mid.slots n.0 (λ k. k) n.0.slots n.0.holdings
      (subst (Rose _) (sym turn.disk_faults) (subst (λ (f : ℕ). Rose f (disks.faults mid.file.cells.disk)) (sym (ap (λ (c : FaultCounts). c.faults) s.counts)) (rose refl)))
      (λ k. read_persistent same is n k) (quiet_leaves disks elements admits mid start h e is.quiet) turn in
      (ends.0, subst (λ (m : Model). is_persistent_key (map_get m.keys id) ≡ true) (sym ends.1) n.1)
  ends_unread rows Corrupt none same s is missing unread rose blind turn =
      let n = unread (λ e. cc) in
      let ends = ends_quiet disks elements admits only_now e _ mid.slots n.0 (λ k. k) n.0.slots n.0.holdings (blind refl)
      (λ k. read_persistent same is n k) (quiet_leaves disks elements admits mid start h e is.quiet) turn in
      (ends.0, subst (λ (m : Model). is_persistent_key (map_get m.keys id) ≡ true) (sym ends.1) n.1)
