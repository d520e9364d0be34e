-- The store before a turn and after it, and what was decided between.
use Rattle.locked_store.proofs.Common.{AllByRecursion, AreHoldings, AreRising, DecidesAfter, Entry, FaultMark, HasModel, HoldsHistory, IsAt, IsBegun, IsCaller, IsCaused, IsClear, IsEntered, IsEntry, IsHolding, IsLater, IsLegal, IsReading, IsStartOf, IsTold, List, None, Opened, Opening, Option, OwnCalls, Pairs, ReadsKey, Request, Seat, Service, Some, StandsFor, Store, ToldBy, View, World, [], after_change, after_turn, ap, append-nil, arith, caller_of, entries_of, false, has_model, id_read, inl, inr, is_some, length, may_change_keys, opening_of, option_list, refl, replay, subst, sym, true, turn_entry, with_held_by, ℕ, ⊎_elim, ◌++◌, ◌∙◌, ◌∷◌, ◌≡◌, ◌≤◌, store_size}
use Rattle.store_model.specs.Store as model
use Rattle.locked_store.specs.declared.changes.Change.{Change}
use Rattle.locked_store.proofs.{Owning.holding_of, Passing.after_one, Passing.goes_on, Passing.signed_front, Passing.with_entry}

-- a model of which Q holds where P does, known where less is
pub model_as : {K K' : Type 0} {start : Service} {h : List Entry} {P Q : model.Store → Type 0} → (K' → K) → ((m : model.Store) → P m → Q m) → HasModel K start h P → HasModel K' start h Q
model_as known more m = record { model = m.model; replayed = λ k. m.replayed (known k); sound = m.sound; settings = m.settings; calls = m.calls; holds = more m.model m.holds }

module _ {D A C : Type 0} (w : World D A C) where
  abbrev opened : Opened D A C
  opened = w.opened

  -- the same store, with what another opening saw
  abbrev pub At : Opened D A C → World D A C
  At o = record w { opened = o }

  abbrev pub Here : Store D A C → List Entry → List Pairs → Type 0
  Here = HoldsHistory w.disk w.devices w.rules

  abbrev pub For : Store D A C → Service → Opening → List Entry → List Pairs → Type 0
  For = StandsFor w.disk w.devices w.rules

  abbrev pub From : Opened D A C → Service → Type 0
  From o = IsStartOf (At o)

  abbrev pub As : Opened D A C → Opening
  As = opening_of w.disk w.devices w.rules

  -- in a history neither counts nor moments fall from an opening on
  abbrev Rises : Opened D A C → List Entry → Type 0
  Rises opened h = AreRising (is_some (w.disk.contents opened.file.value.cells.disk)) (As opened) h

  -- what was told at the opening is told now, and the other way round
  pub told_now : (store : Store D A C) (start : Service) (h : List Entry) → is_some (w.disk.contents store.file.cells.disk) ≡ is_some (w.disk.contents store.opened.file.value.cells.disk) →
      ToldBy (At store.opened) start h → IsTold (w.disk.contents store.file.cells.disk) start h
  told_now store start h tells known = ⊎_elim (λ (e : is_some (w.disk.contents store.opened.file.value.cells.disk) ≡ true). inl (tells ∙ e)) (λ n. inr n) known

  pub told_then : (store : Store D A C) (start : Service) (h : List Entry) → is_some (w.disk.contents store.file.cells.disk) ≡ is_some (w.disk.contents store.opened.file.value.cells.disk) →
      IsTold (w.disk.contents store.file.cells.disk) start h → ToldBy (At store.opened) start h
  told_then store start h tells known = ⊎_elim (λ (e : is_some (w.disk.contents store.file.cells.disk) ≡ true). inl (sym tells ∙ e)) (λ n. inr n) known

  pub legal : (store : Store D A C) (h : List Entry) (all : List Pairs) → Here store h all → IsLegal (At store.opened) h
  legal store h all s = record {
    signed = s.signed;
    caused = subst (λ b. IsCaused b (As store.opened).counts h) s.tells (s.each s.start s.starts).holds.caused;
    rising = s.rising;
    allowed = λ start is known. (s.each start is).holds.allowed (told_now store start h s.tells known);
  }

  pub holdings : (store : Store D A C) (h : List Entry) (all : List Pairs) → Here store h all → AreHoldings all
  holdings store h all s = (s.each s.start s.starts).holds.holdings

  -- no entry is added
  pub with_nothing : (store : Store D A C) (h : List Entry) (all : List Pairs) → Here store h all → Here store (h ++ []) all
  with_nothing store h all s = subst (λ l. Here store l all) (sym (append-nil h)) s

  -- a turn that leaves what the opening saw, and leads on from every start
  pub renewed : (old new : Store D A C) (h h' : List Entry) (all all' : List Pairs) → Here old h all → AllByRecursion IsCaller h' → Rises old.opened h' → new.opened ≡ old.opened → w.disk.size new.file.cells.disk ≡ store_size → IsClear new.buffer →
      is_some (w.disk.contents new.file.cells.disk) ≡ is_some (w.disk.contents old.file.cells.disk) → is_some (w.devices.keys new.devices) ≡ is_some (w.devices.keys old.devices) →
      ((start : Service) → From old.opened start → For new start (As old.opened) h' all') → Here new h' all'
  renewed old new h h' all all' s signed rising same sized clear tells knows next = record {
    start = s.start;
    starts = subst (λ o. From o s.start) (sym same) s.starts;
    each = λ start is. subst (λ o. For new start (As o) h' all') (sym same) (next start (subst (λ o. From o start) same is));
    signed = signed;
    rising = subst (λ o. Rises o h') (sym same) rising;
    sized = sized;
    clear = clear;
    tells = tells ∙ (s.tells ∙ sym (ap (λ o. is_some (w.disk.contents o.file.value.cells.disk)) same));
    knows = knows ∙ (s.knows ∙ sym (ap (λ o. is_some (w.devices.keys o.devices.value)) same));
  }

  -- the entry of a turn
  pub is_entry : (store : Store D A C) (n : ℕ) (call : Request) (mark : FaultMark) → 1 ≤ n → n ≤ 16 →
      IsEntry w.disk w.devices w.rules store mark (turn_entry w.disk w.devices store n call mark)
  is_entry store n call mark first last = record { from_first = first; to_last = last; marked = refl; done = refl; disk_faults = refl; device_faults = refl }

  -- what holds of the store's model after an entry was decided then
  pub decides_after : (new : Store D A C) (P : model.Store → Type 0) (h : List Entry) (e : Entry) (all : List Pairs) → new.opened ≡ opened →
      is_some (w.disk.contents new.file.cells.disk) ≡ is_some (w.disk.contents new.opened.file.value.cells.disk) →
      ((start : Service) → From opened start → (n : For new start (As opened) (h ++ e ∷ []) all) × P n.holds.model) → DecidesAfter w P h e
  decides_after new P h e all same tells next start is = let n = next start is in
      has_model w.disk w.devices w.rules n.0.holds (λ known. told_now new start (h ++ e ∷ []) tells (subst (λ o. ToldBy (At o) start (h ++ e ∷ [])) (sym same) known)) n.1

  module _ {V : Type 0} (v : View Entry (Opened D A C)) (p : Seat (Option V) (View Entry (Opened D A C))) (entries : ℕ)
      (b : IsBegun w v p entries) where
    -- the pass after its turn
    pub at_after : (q : Seat (Option V) (View Entry (Opened D A C))) (e : Option Entry) (own : Pairs) (store : Store D A C) → q.table_id ≡ p.table_id → q.me ≡ (after_turn p.me.0 e own, []) → OwnCalls caller_of q.me.0 →
        store.opened ≡ opened → Here store (entries_of p.me.0.seen ++ option_list e) (with_held_by p.me.0.holdings p.me.0.number own) → IsAt w q
    at_after q e own store table me calls same s = let is : q.me.0 ≡ after_turn p.me.0 e own = ap (λ m. m.0) me in record {
      table = table ∙ b.table;
      outside = (ap (λ (x : View Entry (Opened D A C)). x.ticket) is, ap (λ (x : View Entry (Opened D A C)). x.in_turn) is, ap (λ m. m.1) me);
      based = ap (λ (x : View Entry (Opened D A C)). x.base) is ∙ b.based;
      first = let z = ap (λ (x : View Entry (Opened D A C)). x.number) is in let y = b.first in omega arith;
      calls = calls;
      holding = subst (λ (x : View Entry (Opened D A C)). IsHolding x.holding) (sym is) (holding_of p.me.0.holdings p.me.0.number own b.first b.inside (holdings store (entries_of p.me.0.seen ++ option_list e) (with_held_by p.me.0.holdings p.me.0.number own) s));
    }

    -- and the history that it has then seen
    pub legal_after : (q : Seat (Option V) (View Entry (Opened D A C))) (e : Option Entry) (own : Pairs) (store : Store D A C) → q.me ≡ (after_turn p.me.0 e own, []) → store.opened ≡ opened →
        Here store (entries_of p.me.0.seen ++ option_list e) (with_held_by p.me.0.holdings p.me.0.number own) → IsLegal w (entries_of q.me.0.seen)
    legal_after q e own store me same s = subst (IsLegal w) (sym (with_entry p.me.0 q.me.0 e own (ap (λ m. m.0) me)))
        (subst (λ o. IsLegal (At o) (entries_of p.me.0.seen ++ option_list e)) same (legal store (entries_of p.me.0.seen ++ option_list e) (with_held_by p.me.0.holdings p.me.0.number own) s))

    -- what the turn added, without an entry and with one
    pub later_after_turn : (q : Seat (Option V) (View Entry (Opened D A C))) (change : Change) → q.me ≡ (after_turn p.me.0 None (after_change change p.me.0.holding), []) → IsLater v q.me.0 (after_change change v.holding)
    later_after_turn q change me = let is : q.me.0 ≡ after_turn p.me.0 None (after_change change p.me.0.holding) = ap (λ m. m.0) me in record {
      on = after_one v p.me.0 q.me.0 None (after_change change p.me.0.holding) b.on is;
      calls = ap (λ (x : View Entry (Opened D A C)). x.calls) is ∙ (append-nil p.me.0.calls ∙ b.same_calls);
      holding = ap (λ (x : View Entry (Opened D A C)). x.holding) is ∙ ap (after_change change) b.same_holding;
    }

    pub entered_after_turn : (q : Seat (Option V) (View Entry (Opened D A C))) (e : Entry) (change : Change) (r : ℕ) → q.me ≡ (after_turn p.me.0 (Some e) (after_change change p.me.0.holding), []) → AllByRecursion IsCaller (entries_of p.me.0.seen ++ e ∷ []) →
        r ≡ length (entries_of p.me.0.seen) → e.caller ≡ p.me.0.number → IsEntered v q.me.0 e.call e.mark r (after_change change v.holding) (entries_of p.me.0.seen) e
    entered_after_turn q e change r me signed rank by = let is : q.me.0 ≡ after_turn p.me.0 (Some e) (after_change change p.me.0.holding) = ap (λ m. m.0) me in record {
      on = after_one v p.me.0 q.me.0 (Some e) (after_change change p.me.0.holding) b.on is;
      goes_on = goes_on v p.me.0 b.on b.same_calls b.first b.calls (signed_front (entries_of p.me.0.seen) (e ∷ []) signed);
      seen = with_entry p.me.0 q.me.0 (Some e) (after_change change p.me.0.holding) is;
      rank = rank;
      by = by ∙ b.on.number;
      call_is = refl;
      mark_is = refl;
      calls = ap (λ (x : View Entry (Opened D A C)). x.calls) is ∙ ap (λ l. l ++ e ∷ []) b.same_calls;
      holding = ap (λ (x : View Entry (Opened D A C)). x.holding) is ∙ ap (after_change change) b.same_holding;
    }

    -- a request that reads a key reads it in the turn
    pub reading : (store : Store D A C) (start : Service) (call : Request) (mark : FaultMark) (at : Store D A C) (id : ℕ) → AllByRecursion IsCaller (entries_of p.me.0.seen) → store.opened ≡ opened → is_some (w.disk.contents store.file.cells.disk) ≡ is_some (w.disk.contents store.opened.file.value.cells.disk) →
        From opened start → may_change_keys call ≡ false → ReadsKey w v call id →
        IsReading w.disk w.devices w.rules store start (entries_of p.me.0.seen) (turn_entry w.disk w.devices at p.me.0.number call mark) id
    reading store start call mark at id signed same tells is quiet reads = record {
      quiet = quiet;
      reads = λ known. ap (λ n. id_read (replay start (entries_of p.me.0.seen)) n call) b.on.number ∙
          reads start is (entries_of p.me.0.seen) (goes_on v p.me.0 b.on b.same_calls b.first b.calls signed) (subst (λ o. ToldBy (At o) start (entries_of p.me.0.seen)) same (told_then store start (entries_of p.me.0.seen) tells known));
    }
