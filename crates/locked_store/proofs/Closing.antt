-- What is known once all passes are handed in.
use Rattle.locked_store.proofs.Common.{All, Entry, HasKeyOrIsClosed, HoldsHistory, IsClosed, List, Option, Pairs, StartsWith, Store, World, caller_of, calls_by, course_of, durable_keys, entries_of, inl, subst, ℕ, ◌<◌, ◌∙◌, ◌≡◌, ◌≤◌}
use Rattle.turn_history.specs.declared.pass.Account.{Account}
use Rattle.store_model.specs.Store as model
use Rattle.store_core.proofs.{Freeing.freed_zeros, Sure.left_cells}
use Rattle.locked_store.proofs.Renewing.{At, legal}

module _ {D A C : Type 0} (w : World D A C)
    (only_now : (disk : D) (image : List ℕ) → w.disk.left_since disk (w.disk.moment disk) image → w.disk.may_leave disk image) where
  closed_here : (store : Store D A C) (turns : List (Option Entry)) (all : List Pairs) (accounts : List (Account Entry)) → HoldsHistory w.disk w.devices w.rules store (entries_of turns) all →
      All (λ (e : Entry). (0 < e.caller) × (e.caller ≤ 16)) (entries_of turns) → All (λ (a : Account Entry). StartsWith turns a.seen) accounts →
      All (λ (a : Account Entry). 0 < a.number → calls_by caller_of a.number (entries_of turns) ≡ a.calls) accounts →
      IsClosed (At w store.opened) store.file.cells.disk store.devices accounts
  closed_here store turns all accounts s signed seen called = record {
    turns = turns;
    signed = signed;
    seen = seen;
    called = called;
    legal = legal w store (entries_of turns) all s;
    counts = (s.each s.start s.starts).counts;
    tells = s.tells;
    promise = λ tells start is. (s.each start is).holds.promise (s.tells ∙ tells);
    freed = λ tells start is. freed_zeros w.disk store.file.cells.disk store.file.cells.states start (entries_of turns) ((s.each start is).holds.freed (s.tells ∙ tells));
    cells = λ tells start is image left cell lt.
        let disk = store.file.cells.disk in
        let holds = (s.each start is).holds in
        let now = s.tells ∙ tells in
        subst (λ (m : model.Store). HasKeyOrIsClosed (durable_keys m) (course_of start (entries_of turns)).doubt cell image) (holds.replayed (inl now))
        (left_cells w.disk disk store.file.cells.states (durable_keys holds.model) (course_of start (entries_of turns)).doubt (holds.file now) (holds.sure now) image (only_now disk image left) cell lt);
  }

  pub closed : (store : Store D A C) (passes : ℕ) (turns : List (Option Entry)) (all : List Pairs) (accounts : List (Account Entry)) → store.opened ≡ w.opened → passes ≡ 16 →
      HoldsHistory w.disk w.devices w.rules store (entries_of turns) all →
      All (λ (e : Entry). (0 < e.caller) × (e.caller ≤ passes)) (entries_of turns) → All (λ (a : Account Entry). StartsWith turns a.seen) accounts →
      All (λ (a : Account Entry). 0 < a.number → calls_by caller_of a.number (entries_of turns) ≡ a.calls) accounts →
      IsClosed w store.file.cells.disk store.devices accounts
  closed store passes turns all accounts same sixteen s signed seen called =
      subst (λ o. IsClosed (At w o) store.file.cells.disk store.devices accounts) same
      (closed_here store turns all accounts s (subst (λ n. All (λ (e : Entry). (0 < e.caller) × (e.caller ≤ n)) (entries_of turns)) sixteen signed) seen called)
