-- Turns that finish a creation: what was decided of it, and how the turn ends.
use Rattle.store_core.proofs.Common.{[], AdmissionGhosts, Agrees, ap, AreHoldings, arith, Attributes, Buffer, created_unless, DevicesGhosts, DiskGhosts, Doubt, doubt_by, Entry, Err, false, FaultCounts, FaultMark, Hardware, HasFault, Holds, inl, inr, InvalidHandle, is_destruction, is_some, IsCreating, IsEntry, IsMaking, IsSince, IsTold, kept, key_changed, KeySlots, last_counts, List, MayBeMarked, Model, None, Ok, Opening, Option, option_map_or, Pairs, Plain, Reading, reads_persistent, recorded_of, RecordsStated, refl, replay, Result, serve, Service, Some, StandsFor, Status, Storage, Store, Stored, subst, sym, true, Writing, ℕ, ◌++◌, ◌+◌, ◌∙◌, ◌∷◌, ◌≡◌, ◌≤◌}
use Rattle.slot_table.specs.Lent as lent
use Rattle.store_model.specs.Prelude.{Corrupt}
use Rattle.store_core.proofs.{Histories.told_before, Holding.goes_on, Holding.left_alone, Holding.same_device, Holding.counts_of, Changing.leaves, Makes.IsFailure, Makes.IsRefusedAt, Makes.marked_counts, Makes.plain_counts, Makes.doubted, Makes.changes_none}

-- what is recorded of stated attributes, where nothing refuses it
pub stated_ok : (lease : Option lent.Reading) (caller : ℕ) (a : Attributes) (n : ℕ) (m : Model) (recorded : Attributes) → RecordsStated lease caller a n m (Ok recorded) → recorded_of m caller a n ≡ Ok recorded
stated_ok None caller a n m recorded is = sym is
stated_ok (Some lease) caller a n m recorded (inl is) = sym is.1
stated_ok (Some lease) caller a n m recorded (inr is) = absurd (apart recorded is.1) where
  apart : (x : Attributes) → Ok x ≡ Err InvalidHandle → ⊥
  apart x same = cc

-- the mark of a source that could not be read
abbrev pub IsReadFault : FaultMark → Type 0
IsReadFault (Storage Reading) = Unit {0}
IsReadFault Corrupt = Unit {0}
IsReadFault Plain = ⊥
IsReadFault Hardware = ⊥
IsReadFault (Storage (Writing closed_first)) = ⊥

module _ {D A C : Type 0} (disks : DiskGhosts D) (elements : DevicesGhosts A) (admits : AdmissionGhosts C) where
  abbrev HoldsWith : Store D A C → Service → Opening → List Entry → List Pairs → Entry → Type 0
  HoldsWith store start opening h all e = Holds disks elements admits (IsTold (disks.contents store.file.cells.disk) start (h ++ e ∷ [])) store start opening h all

  -- a store that stands for something, with another buffer, as a turn that ends with an entry sees it
  pub within : (old : Store D A C) (buffer : Buffer) (start : Service) (opening : Opening) (h : List Entry) (all : List Pairs) (e : Entry) →
      (s : StandsFor disks elements admits old start opening h all) → (n : HoldsWith (record old { buffer = buffer }) start opening h all e) × (n.model ≡ s.holds.model)
  within old buffer start opening h all e s =
      goes_on disks elements admits old start opening h old.file old.slots buffer all (IsTold (disks.contents old.file.cells.disk) start (h ++ e ∷ []))
      (left_alone disks elements admits old.file) (told_before (disks.contents old.file.cells.disk) start h e) s.holds s.holds.slots

  pub rebuffered : (store : Store D A C) (buffer : Buffer) (start : Service) (opening : Opening) (h : List Entry) (all : List Pairs) → StandsFor disks elements admits store start opening h all →
      StandsFor disks elements admits (record store { buffer = buffer }) start opening h all
  rebuffered store buffer start opening h all s = record {
    holds = (goes_on disks elements admits store start opening h store.file store.slots buffer all (IsTold (disks.contents store.file.cells.disk) start h)
        (left_alone disks elements admits store.file) (λ k. k) s.holds s.holds.slots).0;
    counts = s.counts;
  }

  pub since_stands : (old : Store D A C) (buffer : Buffer) (start : Service) (opening : Opening) (h : List Entry) (all : List Pairs) → StandsFor disks elements admits old start opening h all →
      IsSince disks elements admits (record old { buffer = buffer }) (last_counts opening.counts h)
  since_stands old buffer start opening h all s = record {
    faults_since = (let same = ap (λ (c : FaultCounts). c.faults) s.counts in omega arith);
    device_faults_since = (let same = ap (λ (c : FaultCounts). c.device_faults) s.counts in omega arith);
  }

  pub since_later : (old mid : Store D A C) (counts : FaultCounts) → counts ≡ counts_of (disks.faults old.file.cells.disk) (elements.faults old.devices) → disks.faults old.file.cells.disk ≤ disks.faults mid.file.cells.disk → mid.devices ≡ old.devices →
      IsSince disks elements admits mid counts
  since_later old mid counts is later same = record {
    faults_since = (let at = ap (λ (c : FaultCounts). c.faults) is in omega arith);
    device_faults_since = (let at = ap (λ (c : FaultCounts). c.device_faults) is in let here = ap elements.faults same in omega arith);
  }

  -- the request makes the key that was decided
  pub is_making : (old mid : Store D A C) (start : Service) (h : List Entry) (e : Entry) (caller : ℕ) (records : Model → Result Attributes Status → Type 0) (bytes : Model → List ℕ) (m : Model) (recorded : Attributes) (b : List ℕ) →
      disks.contents mid.file.cells.disk ≡ disks.contents old.file.cells.disk → IsCreating disks elements admits old start h e caller records bytes → (IsTold (disks.contents mid.file.cells.disk) start (h ++ e ∷ []) → m ≡ (replay start h).store) →
      records m (Ok recorded) → bytes m ≡ b → IsMaking disks elements admits mid start h e caller recorded b
  is_making old mid start h e caller records bytes m recorded b same creating replayed decided is = record {
    by = creating.by;
    keeps = creating.keeps;
    leaves = λ k. creating.leaves (before k) (Ok recorded) (of_replay k) ∙ ap (λ (x : List ℕ). (created_unless (replay start h).store caller (Ok recorded) x).store) (bytes_are k);
    answers = λ k. creating.answers (before k) (Ok recorded) (of_replay k) ∙ ap (λ (x : List ℕ). (created_unless (replay start h).store caller (Ok recorded) x).reply) (bytes_are k);
  } where
    before : IsTold (disks.contents mid.file.cells.disk) start (h ++ e ∷ []) → IsTold (disks.contents old.file.cells.disk) start h
    before k = subst (λ (t : Option (List ℕ)). IsTold t start h) same (told_before (disks.contents mid.file.cells.disk) start h e k)

    of_replay : IsTold (disks.contents mid.file.cells.disk) start (h ++ e ∷ []) → records (replay start h).store (Ok recorded)
    of_replay k = subst (λ (x : Model). records x (Ok recorded)) (replayed k) decided

    bytes_are : IsTold (disks.contents mid.file.cells.disk) start (h ++ e ∷ []) → bytes (replay start h).store ≡ b
    bytes_are k = ap bytes (sym (replayed k)) ∙ is

  -- or is refused
  pub refused_at : (old : Store D A C) (start : Service) (h : List Entry) (e : Entry) (caller : ℕ) (records : Model → Result Attributes Status → Type 0) (bytes : Model → List ℕ) (m : Model) (status : Status) →
      IsCreating disks elements admits old start h e caller records bytes → (IsTold (disks.contents old.file.cells.disk) start (h ++ e ∷ []) → m ≡ (replay start h).store) →
      records m (Err status) → IsTold (disks.contents old.file.cells.disk) start (h ++ e ∷ []) → IsRefusedAt e status (replay start h)
  refused_at old start h e caller records bytes m status creating replayed decided k =
      let before = told_before (disks.contents old.file.cells.disk) start h e k in
      let of_replay = subst (λ (x : Model). records x (Err status)) (replayed k) decided in
      record { leaves = creating.leaves before (Err status) of_replay; answers = creating.answers before (Err status) of_replay }

  -- A creation that makes no key: its slot is given up.
  module _ (only_now : (disk : D) (image : List ℕ) → disks.left_since disk (disks.moment disk) image → disks.may_leave disk image)
      (mid : Store D A C) (slots : KeySlots) (start : Service) (opening : Opening) (h : List Entry) (all less : List Pairs) (e : Entry) (keeps : is_destruction e.call ≡ false) where
    abbrev pub given_up : Store D A C
    given_up = record mid { slots = slots; ranked = mid.ranked + 1 }

    abbrev disk : D
    disk = mid.file.cells.disk

    -- since it is refused
    pub refuses : (status : Status) (s : HoldsWith mid start opening h all e) → (IsTold (disks.contents disk) start (h ++ e ∷ []) → IsRefusedAt e status (replay start h)) → Agrees slots.table.slots s.model less → AreHoldings less →
        IsEntry disks elements admits given_up Plain e → StandsFor disks elements admits given_up start opening (h ++ e ∷ []) less
    refuses status s refused agrees law is = (leaves disks elements admits only_now e (IsRefusedAt e status) Plain slots mid.devices s (λ k. k) refused (λ service known. plain_counts e keeps service is.marked ∙ known.leaves) agrees law refl
        (same_device (elements.keys mid.devices) s.model s.device) tt (λ service known at. tt) (λ c known. doubted e keeps c Plain None None is.marked (changes_none e keeps status c.service known) refl) (λ service known. inr keeps) is).0

    abbrev Reads : Service → Type 0
    Reads service = reads_persistent service e.caller e.call ≡ true

    same_doubt : (mark : FaultMark) → IsReadFault mark → (o : Option Stored) (doubt : Doubt) → option_map_or (λ (key : Stored). doubt_by mark false key doubt) o doubt ≡ doubt
    same_doubt (Storage Reading) is None doubt = refl
    same_doubt (Storage Reading) is (Some key) doubt = refl
    same_doubt Corrupt is None doubt = refl
    same_doubt Corrupt is (Some key) doubt = refl
    same_doubt Plain is o doubt = absurd is
    same_doubt Hardware is o doubt = absurd is
    same_doubt (Storage (Writing closed_first)) is o doubt = absurd is

    failing : (mark : FaultMark) → IsReadFault mark → IsFailure mark
    failing Plain is = is
    failing mark is = tt

    may_read : (mark : FaultMark) → IsReadFault mark → (service : Service) → Reads service → MayBeMarked service e.caller e.call mark
    may_read (Storage Reading) is service reads = reads
    may_read Corrupt is service reads = reads
    may_read Plain is service reads = tt
    may_read Hardware is service reads = absurd is
    may_read (Storage (Writing closed_first)) is service reads = absurd is

    -- or since its source could not be read
    pub unread : (mark : FaultMark) → IsReadFault mark → (s : HoldsWith mid start opening h all e) → (IsTold (disks.contents disk) start (h ++ e ∷ []) → Reads (replay start h)) → Agrees slots.table.slots s.model less → AreHoldings less →
        HasFault (is_some (disks.contents disk)) (last_counts opening.counts h) e mark →
        IsEntry disks elements admits given_up mark e → StandsFor disks elements admits given_up start opening (h ++ e ∷ []) less
    unread mark kind s reads agrees law fault is = (leaves disks elements admits only_now e Reads mark slots mid.devices s (λ k. k) reads
        (λ service known. ap (λ (x : FaultMark). (serve service e.caller e.call x).service.store) is.marked ∙ marked_counts service e.caller e.call mark (failing mark kind) keeps) agrees law refl
        (same_device (elements.keys mid.devices) s.model s.device) fault (λ service known at. may_read mark kind service known)
        (λ c known. doubted e keeps c mark (key_changed c.service e.caller e.call) (kept (key_changed c.service e.caller e.call)) is.marked refl refl ∙ same_doubt mark kind (kept (key_changed c.service e.caller e.call)) c.doubt)
        (λ service known. inr keeps) is).0
