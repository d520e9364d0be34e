-- A store keeps what it has out over its turns.
use Rattle.std.proofs.Common.{Err, IfErr, IfOk, List, None, Ok, OnOk, Option, Result, [], ap, arith, length, refl, subst, sym, ℕ, ◌++◌, ◌+◌, ◌<◌, ◌^◌, ◌∙◌, ◌∷◌, ◌≡◌, ◌≤◌}
use Rattle.psa_status.specs.declared.Status.{Status}
use Rattle.key_attributes.specs.declared.Attributes.{Attributes}
use Rattle.secret_bytes.specs.Buffer.{IsClear, Buffer}
use Rattle.persistent_keys.specs.declared.file.KeyFile.{KeyFile}
use Rattle.slot_table.specs.Lent.{Reading}
use Rattle.key_slots.specs.Holdings.{Pairs, Gains, AreHoldings}
use Rattle.store_model.specs.Store as model
use Rattle.store_model.specs.Prelude.{Import, GetAttributes, Export, created_unless, FaultMark, Plain, Service, Request, OnStore, Entry, replay}
use Rattle.store_core.specs.{declared.store.Store.Store, Prelude.AddsAs, Prelude.Gives, Prelude.HasOut, Prelude.IsEntry, Prelude.Reads, Prelude.ReadsAndGives, Prelude.Stands, Prelude.Takes, Prelude.Creates, Prelude.HasOutBeside, Prelude.IsCreating, Prelude.RecordsStated, Prelude.mark_of}
use Rattle.store_core.proofs.Histories.{quiet_leaves}
use Rattle.store_bench.specs.Keeping.{GivesLease, StandsForSomeHistory, StaysOut, first_has}
use Rattle.store_bench.proofs.Outs.{are_one, hold, lease_beside, filling_alone, first_gains, is_out}
use Rattle.disk_face.specs.declared.Disk as Disk
use Rattle.driver_dispatch.specs.declared.devices.Devices as Devices
use Rattle.admission.specs.declared.rules.Admission as Admission
use Rattle.key_cells.specs.Prelude.{store_size}

module _ {D A C : Type 0} (disks : Disk.Ghosts D) (elements : Devices.Ghosts A) (admits : Admission.Ghosts C) where
  abbrev KeepsHere : Store D A C → List Pairs → Type 0
  KeepsHere = StandsForSomeHistory disks elements admits

  -- the store stands for something
  pub somehow : (store : Store D A C) (all : List Pairs) → KeepsHere store all → Stands disks elements admits store
  somehow store all k = (k.start, k.opening, k.h, all, k.stands)

  -- and a pair is out of it
  pub out : (store : Store D A C) (all less : List Pairs) (p : ℕ × ℕ) → Gains less all p → KeepsHere store all → HasOut disks elements admits store p
  out store all less p gains k = (k.start, k.opening, k.h, all, k.stands, is_out less all p gains)

  pub out_alone : (store : Store D A C) (all less : List Pairs) (p : ℕ × ℕ) → Gains less all p → KeepsHere store all → HasOutBeside disks elements admits store p None
  out_alone store all less p gains k = (k.start, k.opening, k.h, all, k.stands, is_out less all p gains, tt)

  -- TURNS WITHOUT RANK

  module _ (old new : Store D A C) (file : new.file ≡ old.file) (buffer : new.buffer ≡ old.buffer) where
    pub given : (all more : List Pairs) (p : ℕ × ℕ) → Gives disks elements admits old new p → Gains all more p → AreHoldings more → KeepsHere old all → KeepsHere new more
    given all more p gives gains law k = record {
      start = k.start;
      opening = k.opening;
      h = k.h;
      stands = gives k.start k.opening k.h all more k.stands gains law;
      sized = ap (λ (f : KeyFile D). disks.size f.cells.disk) file ∙ k.sized;
      clear = subst (λ (b : Buffer). IsClear b) (sym buffer) k.clear;
    }

    pub taken : (all less : List Pairs) (p : ℕ × ℕ) → Takes disks elements admits old new p → Gains less all p → AreHoldings less → KeepsHere old all → KeepsHere new less
    taken all less p takes gains law k = record {
      start = k.start;
      opening = k.opening;
      h = k.h;
      stands = takes k.start k.opening k.h all less k.stands gains law;
      sized = ap (λ (f : KeyFile D). disks.size f.cells.disk) file ∙ k.sized;
      clear = subst (λ (b : Buffer). IsClear b) (sym buffer) k.clear;
    }

    -- they count no turn
    pub few_given : (all more : List Pairs) (p : ℕ × ℕ) → Gives disks elements admits old new p → Gains all more p → AreHoldings more → KeepsHere old all → old.ranked < 2 ^ 60 → new.ranked < 2 ^ 60
    few_given all more p gives gains law k few =
        let n = gives k.start k.opening k.h all more k.stands gains law in
        let same : new.ranked ≡ old.ranked = n.holds.ranked ∙ sym k.stands.holds.ranked in
        omega (arith, same, few)

    -- a slot is reserved for the first caller, who has nothing out
    pub reserved : (slot : ℕ) → Gives disks elements admits old new (slot, 0) → KeepsHere old (first_has []) → KeepsHere new (first_has ((slot, 0) ∷ []))
    reserved slot gives k = let p : ℕ × ℕ = (slot, 0) in given (first_has []) (first_has (p ∷ [])) p gives (first_gains [] p) (are_one (p ∷ []) (filling_alone slot)) k

    pub few_reserved : (slot : ℕ) → Gives disks elements admits old new (slot, 0) → KeepsHere old (first_has []) → old.ranked < 2 ^ 60 → new.ranked < 2 ^ 60
    few_reserved slot gives k few = let p : ℕ × ℕ = (slot, 0) in few_given (first_has []) (first_has (p ∷ [])) p gives (first_gains [] p) (are_one (p ∷ []) (filling_alone slot)) k few

  -- RANKED TURNS

  module _ (old new : Store D A C) (all : List Pairs) where
    -- the entry of a caller's call, as the turn leaves it
    abbrev entry : ℕ → Request → FaultMark → Entry
    entry caller request mark = record { caller = caller; call = request; mark = mark; done = disks.moment new.file.cells.disk; faults = disks.faults new.file.cells.disk; device_faults = elements.faults new.devices }

    is_entry : (caller : ℕ) (request : Request) (mark : FaultMark) → 1 ≤ caller → caller ≤ 16 → IsEntry disks elements admits new mark (entry caller request mark)
    is_entry caller request mark first last = record { from_first = first; to_last = last; marked = refl; done = refl; disk_faults = refl; device_faults = refl }

    module _ (sized : disks.size new.file.cells.disk ≡ store_size) (clear : IsClear new.buffer) where
      pub added : (P : model.Store → Type 0) → AddsAs disks elements admits old new P → KeepsHere old all → KeepsHere new all
      added P adds k =
          let e = entry 1 (OnStore (GetAttributes 0)) Plain in
          let leaves = quiet_leaves disks elements admits old k.start k.h e refl in
          record {
            start = k.start;
            opening = k.opening;
            h = k.h ++ e ∷ [];
            stands = (adds k.start k.opening k.h all e k.stands leaves (is_entry 1 (OnStore (GetAttributes 0)) Plain (omega arith) (omega arith))).0;
            sized = sized;
            clear = clear;
          }

      pub read : (id : ℕ) (mark : FaultMark) (P : model.Store → Type 0) → Reads disks elements admits old new id mark P → KeepsHere old all → KeepsHere new all
      read id mark P reads k =
          let e = entry 1 (OnStore (GetAttributes id)) mark in
          record {
            start = k.start;
            opening = k.opening;
            h = k.h ++ e ∷ [];
            stands = (reads k.start k.opening k.h all e k.stands (record { quiet = refl; reads = λ t. refl }) (is_entry 1 (OnStore (GetAttributes id)) mark (omega arith) (omega arith))).0;
            sized = sized;
            clear = clear;
          }

      pub read_and_lent : (more : List Pairs) (id : ℕ) (p : ℕ × ℕ) (P : model.Store → Type 0) → ReadsAndGives disks elements admits old new id p P →
          Gains all more p → AreHoldings more → KeepsHere old all → KeepsHere new more
      read_and_lent more id p P reads gains law k =
          let e = entry 1 (OnStore (Export id 0)) Plain in
          record {
            start = k.start;
            opening = k.opening;
            h = k.h ++ e ∷ [];
            stands = (reads k.start k.opening k.h all more e k.stands gains law (record { quiet = refl; reads = λ t. refl }) (is_entry 1 (OnStore (Export id 0)) Plain (omega arith) (omega arith))).0;
            sized = sized;
            clear = clear;
          }

      -- an import is a creation
      imports : (start : Service) (h : List Entry) (caller : ℕ) (a : Attributes) (bytes : List ℕ) (mark : FaultMark) →
          IsCreating disks elements admits old start h (entry caller (OnStore (Import a bytes)) mark) caller (RecordsStated None caller a (length bytes)) (λ m. bytes)
      imports start h caller a bytes mark = record {
        by = refl;
        keeps = refl;
        leaves = λ t recorded is. ap (λ (r : Result Attributes Status). (created_unless (replay start h).store caller r bytes).store) (sym is);
        answers = λ t recorded is. ap (λ (r : Result Attributes Status). (created_unless (replay start h).store caller r bytes).reply) (sym is);
      }

      pub made : (less : List Pairs) (caller : ℕ) (a : Attributes) (bytes : List ℕ) (p : ℕ × ℕ) (mark : FaultMark) (P : model.Store → Type 0) → 1 ≤ caller → caller ≤ 16 →
          Creates disks elements admits old new caller None (RecordsStated None caller a (length bytes)) (λ m. bytes) p mark P →
          Gains less all p → AreHoldings less → KeepsHere old all → KeepsHere new less
      made less caller a bytes p mark P first last creates gains law k =
          let e = entry caller (OnStore (Import a bytes)) mark in
          record {
            start = k.start;
            opening = k.opening;
            h = k.h ++ e ∷ [];
            stands = (creates k.start k.opening k.h all less e k.stands tt gains law (imports k.start k.h caller a bytes mark) (is_entry caller (OnStore (Import a bytes)) mark first last)).0;
            sized = sized;
            clear = clear;
          }

      -- WHATEVER A CALL ANSWERED

      pub made_or_not : {R E : Type 0} (result : Result R E) (less : List Pairs) (caller : ℕ) (a : Attributes) (bytes : List ℕ) (p : ℕ × ℕ) (mark : E → FaultMark) (P : R → model.Store → Type 0) (Q : E → model.Store → Type 0) → 1 ≤ caller → caller ≤ 16 →
          IfOk result (λ id. Creates disks elements admits old new caller None (RecordsStated None caller a (length bytes)) (λ m. bytes) p Plain (P id)) →
          IfErr result (λ why. Creates disks elements admits old new caller None (RecordsStated None caller a (length bytes)) (λ m. bytes) p (mark why) (Q why)) →
          Gains less all p → AreHoldings less → KeepsHere old all → KeepsHere new less
      made_or_not (Ok id) less caller a bytes p mark P Q first last done not gains law k = made less caller a bytes p Plain (P id) first last done gains law k
      made_or_not (Err why) less caller a bytes p mark P Q first last done not gains law k = made less caller a bytes p (mark why) (Q why) first last not gains law k

      pub added_or_not : {R E : Type 0} (result : Result R E) (P : model.Store → Type 0) (Is : E → Type 0) (Q : E → model.Store → Type 0) →
          OnOk result (AddsAs disks elements admits old new P) →
          IfErr result (λ why. Is why × AddsAs disks elements admits old new (Q why)) → KeepsHere old all → KeepsHere new all
      added_or_not (Ok _) P Is Q done not k = added P done k
      added_or_not (Err why) P Is Q done not k = added (Q why) not.1 k

  -- UNDER LEASES

  module _ (old new : Store D A C) (sized : disks.size new.file.cells.disk ≡ store_size) (clear : IsClear new.buffer) where
    pub lends : {E : Type 0} (result : Result Reading E) (id : ℕ) (P : Reading → model.Store → Type 0) →
        IfOk result (λ l. ReadsAndGives disks elements admits old new id (l.slot, l.creation + 1) (P l)) → IfOk result (λ l. GivesLease disks elements admits old new 4 (l.slot, l.creation + 1))
    lends (Ok l) id P reads = λ own leases k.
        let p : ℕ × ℕ = (l.slot, l.creation + 1) in
        read_and_lent old new (first_has own) sized clear (first_has (p ∷ own)) id p (P l) reads (first_gains own p) (hold (p ∷ own) 5 (omega arith) (lease_beside own 4 l.slot l.creation leases)) k
    lends (Err why) id P reads = tt

    pub lends_not : {R X : Type 0} (result : Result R (Status × X)) (id : ℕ) (P : Status → model.Store → Type 0) →
        IfErr result (λ r. Reads disks elements admits old new id (mark_of r.0) (P r.0)) → IfErr result (λ r. StaysOut disks elements admits old new 4)
    lends_not (Ok l) id P reads = tt
    lends_not (Err r) id P reads = λ own leases k. read old new (first_has own) sized clear id (mark_of r.0) (P r.0) reads k
