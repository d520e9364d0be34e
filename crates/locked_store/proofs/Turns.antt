-- A turn of the store, between a pass's beginning of its turn and the end.
use Rattle.locked_store.proofs.Common.{Adds, AddsAs, AllByRecursion, AreHoldings, AreRising, Call, Copies, Copy, Creates, CreatesKey, DecidesAfter, DecidesBefore, Destroy, Destroys, Entry, Err, FaultCounts, FaultMark, Gains, Gives, HasModel, HasOut, HasOutBeside, IfErr, IfOk, IsAmong, IsBegun, IsCaller, IsClear, IsEntered, IsEnteredAfter, IsEntry, IsHolding, IsOwn, IsRanked, IsTold, LeavesAllKeys, LeavesKeys, List, Makes, NoFewerFaults, None, Ok, OnStore, Opened, Option, Pairs, Plain, Reads, ReadsAndGives, ReadsKey, Request, Result, Seat, Service, Some, Stands, Steps, Store, Success, Takes, ToldBy, View, World, [], ap, arith, created_unless, entries_fewer, entries_of, false, get_or, has_model, inl, inr, is_some, length, may_change_keys, named, names, plain_step, quiet_leaves, refl, refused_leaves, replay, result_mark, subst, suc, sym, told_before, true, turn_entry, with_held_by, without_pair, zero, ℕ, ⊎_elim, ◌++◌, ◌+◌, ◌-◌, ◌<◌, ◌^◌, ◌∙◌, ◌∷◌, ◌≡◌, ◌≤◌, store_size}
use Rattle.turn_history.proofs.Using.{keeps_own}
use Rattle.key_attributes.specs.declared.Attributes.{Attributes}
use Rattle.psa_status.specs.declared.Status.{Status}
use Rattle.slot_table.specs.Lent as lent
use Rattle.store_model.specs.Store as model
use Rattle.store_core.proofs.Rises.{rising_push}
use Rattle.locked_store.proofs.{Owning.fewer, Owning.gains, Owning.loses, Owning.splits, Owning.with_holding, Passing.goes_on, Passing.signed_push, Renewing.As, Renewing.At, Renewing.For, Renewing.From, Renewing.Here, Renewing.decides_after, Renewing.holdings, Renewing.is_entry, Renewing.model_as, Renewing.reading, Renewing.renewed, Renewing.told_now, Renewing.told_then}

-- a pair of one caller is one of all
named_at : (i k j : ℕ) (all : List Pairs) → j < length all → names i k (get_or all j []) ≤ named i k all
named_at i k j [] lt = absurd (omega arith)
named_at i k zero (x ∷ xs) lt = omega arith
named_at i k (suc j) (x ∷ xs) lt = let r = named_at i k j xs (omega arith) in omega arith

module _ {D A C : Type 0} (w : World D A C) where
  -- what every turn leaves
  pub record IsSteady (old new : Store D A C) : Type 0 where
    pub opened : new.opened ≡ old.opened
    pub sized : w.disk.size new.file.cells.disk ≡ store_size
    pub clear : IsClear new.buffer
    pub tells : is_some (w.disk.contents new.file.cells.disk) ≡ is_some (w.disk.contents old.file.cells.disk)
    pub knows : is_some (w.devices.keys new.devices) ≡ is_some (w.devices.keys old.devices)
    pub later : NoFewerFaults w.disk.faults w.devices.faults old new

  module _ {V : Type 0} where
    -- a turn that has begun and finds this store; v is its pass before it, and p the pass in it
    pub record HasTurn (v : View Entry (Opened D A C)) (p : Seat (Option V) (View Entry (Opened D A C))) (entries : ℕ) (old : Store D A C) : Type 0 where
      pub begun : IsBegun w v p entries
      pub opened : old.opened ≡ w.opened
      pub stands : Here w old (entries_of p.me.0.seen) p.me.0.holdings

    module _ (p : Seat (Option V) (View Entry (Opened D A C))) (new : Store D A C) (call : Request) where
      -- the entry of a ranked turn that leaves the store `new`
      abbrev pub entry_of : FaultMark → Entry
      entry_of mark = turn_entry w.disk w.devices new p.me.0.number call mark

      -- the store stands for the history with that entry, at which this was decided, and the caller has these pairs out
      pub record IsTurned (mark : FaultMark) (own : Pairs) (Decided : List Entry → Entry → Type 0) : Type 0 where
        pub stands : Here w new (entries_of p.me.0.seen ++ entry_of mark ∷ []) (with_held_by p.me.0.holdings p.me.0.number own)
        pub decided : Decided (entries_of p.me.0.seen) (entry_of mark)

      -- so it is of a turn that may fail
      pub record AreTurned {T E : Type 0} (mark : E → FaultMark) (own : Pairs) (result : Result T E) (P : T → List Entry → Entry → Type 0) (Q : E → List Entry → Entry → Type 0) : Type 0 where
        pub ok : IfOk result (λ x. IsTurned Plain own (P x))
        pub err : IfErr result (λ why. IsTurned (mark why) own (Q why))

pub in_turn : {V D A C : Type 0} {w : World D A C} {v : View Entry (Opened D A C)} {p : Seat (Option V) (View Entry (Opened D A C))} {entries : ℕ} {found old : Store D A C} →
    IsBegun w v p entries → Here w found (entries_of p.me.0.seen) p.me.0.holdings → found.opened ≡ w.opened → old ≡ found → HasTurn w v p entries old
in_turn {w = w} {p = p} begun stands opened is = record {
  begun = begun;
  opened = ap (λ s. s.opened) is ∙ opened;
  stands = subst (λ s. Here w s (entries_of p.me.0.seen) p.me.0.holdings) (sym is) stands;
}

-- a ranked turn, by its entry and what was decided there
pub entered_after : {B : Type 0} {v w : View Entry B} {call : Request} {mark : FaultMark} {r : ℕ} {own : Pairs} {before : List Entry} {e : Entry} {Decided : List Entry → Entry → Type 0} →
    IsEntered v w call mark r own before e → Decided before e → IsEnteredAfter v w call mark r own before Decided
entered_after {e = e} entered decided = record { entry = e; entered = entered; decided = decided }

pub ranked : {B : Type 0} {v w : View Entry B} {call : Request} {mark : FaultMark} {r : ℕ} {own : Pairs} {before : List Entry} {e : Entry} {Decided : List Entry → Entry → Type 0} →
    IsEntered v w call mark r own before e → Decided before e → IsRanked v w call mark r own Decided
ranked {before = before} entered decided = record { before = before; after = entered_after entered decided }

module _ {V D A C T E : Type 0} {w : World D A C} {p : Seat (Option V) (View Entry (Opened D A C))} {new : Store D A C} {call : Request} {mark : E → FaultMark} {own : Pairs} {P : T → List Entry → Entry → Type 0} {Q : E → List Entry → Entry → Type 0} where
  pub turned_stands : (result : Result T E) → AreTurned w p new call mark own result P Q → Here w new (entries_of p.me.0.seen ++ entry_of w p new call (result_mark mark result) ∷ []) (with_held_by p.me.0.holdings p.me.0.number own)
  turned_stands (Ok x) turned = turned.ok.stands
  turned_stands (Err why) turned = turned.err.stands

  pub ranks_ok : {v u : View Entry (Opened D A C)} {r : ℕ} {held : Pairs} (result : Result T E) → AreTurned w p new call mark own result P Q →
      IsEntered v u call (result_mark mark result) r held (entries_of p.me.0.seen) (entry_of w p new call (result_mark mark result)) → IfOk result (λ x. IsRanked v u call Plain r held (P x))
  ranks_ok (Ok x) turned entered = ranked entered turned.ok.decided
  ranks_ok (Err why) turned entered = tt

  pub ranks_err : {v u : View Entry (Opened D A C)} {r : ℕ} {held : Pairs} (result : Result T E) → AreTurned w p new call mark own result P Q →
      IsEntered v u call (result_mark mark result) r held (entries_of p.me.0.seen) (entry_of w p new call (result_mark mark result)) → IfErr result (λ why. IsRanked v u call (mark why) r held (Q why))
  ranks_err (Ok x) turned entered = tt
  ranks_err (Err why) turned entered = ranked entered turned.err.decided

module _ {V D A C : Type 0} {w : World D A C} {v : View Entry (Opened D A C)} {p : Seat (Option V) (View Entry (Opened D A C))} {entries : ℕ} {old : Store D A C}
    (t : HasTurn w v p entries old) where
  abbrev seen : List Entry
  seen = entries_of p.me.0.seen

  abbrev all : List Pairs
  all = p.me.0.holdings

  abbrev own : Pairs
  own = p.me.0.holding

  abbrev with : Pairs → List Pairs
  with pairs = with_held_by p.me.0.holdings p.me.0.number pairs

  -- a turn that calls no device
  pub steady : (new : Store D A C) → new.opened ≡ old.opened → new.file ≡ old.file → new.devices ≡ old.devices → new.buffer ≡ old.buffer → IsSteady w old new
  steady new opened file devices buffer = record {
    opened = opened;
    sized = ap (λ f. w.disk.size f.cells.disk) file ∙ t.stands.sized;
    clear = subst IsClear (sym buffer) t.stands.clear;
    tells = ap (λ f. is_some (w.disk.contents f.cells.disk)) file;
    knows = ap (λ d. is_some (w.devices.keys d)) devices;
    later = record {
      disk = subst (λ f. w.disk.faults old.file.cells.disk ≤ w.disk.faults f.cells.disk) (sym file) (omega arith);
      devices = subst (λ d. w.devices.faults old.devices ≤ w.devices.faults d) (sym devices) (omega arith);
    };
  }

  pub stands_some : Stands w.disk w.devices w.rules old
  stands_some = (t.stands.start, As w old.opened, seen, all, t.stands.each t.stands.start t.stands.starts)

  pub few : old.ranked < 2 ^ 62
  few = let r = (t.stands.each t.stands.start t.stands.starts).holds.ranked in let f = entries_fewer p.me.0.seen in let z = t.begun.few in omega arith

  are : AreHoldings all
  are = holdings w old seen all t.stands

  mine : IsHolding v.holding → IsHolding own
  mine h = subst IsHolding (sym t.begun.same_holding) h

  pub has : (pair : ℕ × ℕ) → 0 < names pair.0 pair.1 v.holding → 0 < named pair.0 pair.1 all
  has pair some = let inside : p.me.0.number - 1 < length all = let z = t.begun.first in let y = t.begun.inside in omega arith in
      let at = named_at pair.0 pair.1 (p.me.0.number - 1) all inside in
      let here : names pair.0 pair.1 (get_or all (p.me.0.number - 1) []) ≡ names pair.0 pair.1 v.holding = ap (names pair.0 pair.1) (t.begun.own ∙ t.begun.same_holding) in omega arith

  -- a pair of the caller's is out of the store
  pub out : (pair : ℕ × ℕ) → 0 < names pair.0 pair.1 v.holding → HasOut w.disk w.devices w.rules old pair
  out pair some = (t.stands.start, As w old.opened, seen, all, t.stands.each t.stands.start t.stands.starts, has pair some)

  among : (lease : Option lent.Reading) → IsOwn lease v.holding → IsAmong lease all
  among None is = tt
  among (Some lease) is = has (lease.slot, lease.creation + 1) is

  pub out_beside : (pair : ℕ × ℕ) (lease : Option lent.Reading) → 0 < names pair.0 pair.1 v.holding → IsOwn lease v.holding → HasOutBeside w.disk w.devices w.rules old pair lease
  out_beside pair lease some own_lease = (t.stands.start, As w old.opened, seen, all, t.stands.each t.stands.start t.stands.starts, has pair some, among lease own_lease)

  -- the pass's caller is one of sixteen
  pub is_last : (caller : ℕ) → caller ≡ v.number → caller ≤ 16
  is_last caller is = let n = t.begun.on.number in let z = t.begun.inside in let y = are.callers in omega arith

  taken : (pair : ℕ × ℕ) → 0 < names pair.0 pair.1 v.holding → Gains (with (without_pair pair own)) all pair
  taken pair some = loses all p.me.0.number own t.begun.first t.begun.inside t.begun.own pair (splits pair own (subst (λ o. 0 < names pair.0 pair.1 o) (sym t.begun.same_holding) some))

  given : (pair : ℕ × ℕ) → Gains all (with (pair ∷ own)) pair
  given pair = gains all p.me.0.number own t.begun.first t.begun.inside t.begun.own pair

  -- turns without rank
  pub after_giving : (new : Store D A C) (pair : ℕ × ℕ) → IsSteady w old new → IsHolding (pair ∷ own) → Gives w.disk w.devices w.rules old new pair → Here w new seen (with (pair ∷ own))
  after_giving new pair k holding gives =
      renewed w old new seen seen all (with (pair ∷ own)) t.stands t.stands.signed t.stands.rising k.opened k.sized k.clear k.tells k.knows
      (λ start is. gives start (As w old.opened) seen all (with (pair ∷ own)) (t.stands.each start is) (given pair) (with_holding all p.me.0.number (pair ∷ own) holding are))

  pub after_taking : (new : Store D A C) (pair : ℕ × ℕ) → IsSteady w old new → IsHolding v.holding → 0 < names pair.0 pair.1 v.holding → Takes w.disk w.devices w.rules old new pair →
      Here w new seen (with (without_pair pair own))
  after_taking new pair k holding some takes =
      renewed w old new seen seen all (with (without_pair pair own)) t.stands t.stands.signed t.stands.rising k.opened k.sized k.clear k.tells k.knows
      (λ start is. takes start (As w old.opened) seen all (with (without_pair pair own)) (t.stands.each start is) (taken pair some) (with_holding all p.me.0.number (without_pair pair own) (fewer pair own (mine holding)) are))

  entered : (new : Store D A C) (call : Request) (mark : FaultMark) → IsEntry w.disk w.devices w.rules new mark (entry_of w p new call mark)
  entered new call mark = is_entry w new p.me.0.number call mark t.begun.first (let z = t.begun.inside in let y = are.callers in omega arith)

  -- the history is still signed by callers
  signs : (new : Store D A C) (call : Request) (mark : FaultMark) → AllByRecursion IsCaller (seen ++ entry_of w p new call mark ∷ [])
  signs new call mark = signed_push seen (entry_of w p new call mark) t.stands.signed (t.begun.first, (let z = t.begun.inside in let y = are.callers in omega arith))

  -- its counts are those of disk and devices now, and its moment is the disk's
  rises : (new : Store D A C) (call : Request) (mark : FaultMark) (pairs : List Pairs) → IsSteady w old new → For w new t.stands.start (As w old.opened) (seen ++ entry_of w p new call mark ∷ []) pairs →
      AreRising (is_some (w.disk.contents old.opened.file.value.cells.disk)) (As w old.opened) (seen ++ entry_of w p new call mark ∷ [])
  rises new call mark pairs k n =
      let counts = sym (t.stands.each t.stands.start t.stands.starts).counts in
      let tells : is_some (w.disk.contents old.opened.file.value.cells.disk) ≡ true → is_some (w.disk.contents new.file.cells.disk) ≡ true = λ is. k.tells ∙ (t.stands.tells ∙ is) in
      rising_push (is_some (w.disk.contents old.opened.file.value.cells.disk)) (As w old.opened) seen (entry_of w p new call mark) t.stands.rising
      (subst (λ (c : FaultCounts). c.faults ≤ w.disk.faults new.file.cells.disk) counts k.later.disk)
      (subst (λ (c : FaultCounts). c.device_faults ≤ w.devices.faults new.devices) counts k.later.devices)
      (λ is. (n.holds.promise (tells is)).opened)
      (λ is. (n.holds.promise (tells is)).entered)

  kept : all ≡ with own
  kept = sym (keeps_own all p.me.0.number own t.begun.own)

  -- the store that a ranked turn leaves stands for the history with its entry, where it does so from every start
  renews : (new : Store D A C) (call : Request) (mark : FaultMark) (own' : Pairs) → IsSteady w old new → ((start : Service) → From w old.opened start → For w new start (As w old.opened) (seen ++ entry_of w p new call mark ∷ []) (with own')) →
      Here w new (seen ++ entry_of w p new call mark ∷ []) (with own')
  renews new call mark own' k each =
      renewed w old new seen (seen ++ entry_of w p new call mark ∷ []) all (with own') t.stands (signs new call mark) (rises new call mark (with own') k (each t.stands.start t.stands.starts)) k.opened k.sized k.clear k.tells k.knows each

  -- a ranked turn: it leads on from every start to a store of which P holds
  abbrev pub Led : Store D A C → Request → FaultMark → Pairs → (model.Store → Type 0) → Type 0
  Led new call mark own' P = (start : Service) → From w old.opened start → (n : For w new start (As w old.opened) (seen ++ entry_of w p new call mark ∷ []) (with own')) × P n.holds.model

  pub turned_after : {new : Store D A C} (call : Request) (mark : FaultMark) (own' : Pairs) (P : model.Store → Type 0) → IsSteady w old new → Led new call mark own' P → IsTurned w p new call mark own' (DecidesAfter w P)
  turned_after {new} call mark own' P k led = let then = renews new call mark own' k (λ start is. (led start is).0) in record {
    stands = then;
    decided = decides_after w new P seen (entry_of w p new call mark) (with own') (k.opened ∙ t.opened) then.tells
        (λ start is. subst (λ o. (n : For w new start (As w o) (seen ++ entry_of w p new call mark ∷ []) (with own')) × P n.holds.model) t.opened (led start (subst (λ o. From w o start) (sym t.opened) is)));
  }

  -- and so to one of which Q holds, where P gives that
  pub led_weaker : (new : Store D A C) (call : Request) (mark : FaultMark) (own' : Pairs) (P Q : model.Store → Type 0) → Led new call mark own' P → ((m : model.Store) → P m → Q m) → Led new call mark own' Q
  led_weaker new call mark own' P Q led weaker start is = let n = led start is in (n.0, weaker n.0.holds.model n.1)

  -- the request leaves all keys in the turn
  leaves : (new : Store D A C) (call : Request) (start : Service) → From w old.opened start → LeavesAllKeys w v call →
      LeavesKeys w.disk w.devices w.rules old start seen (entry_of w p new call Plain)
  leaves new call start is either = ⊎_elim
      (λ (quiet : may_change_keys call ≡ false). quiet_leaves w.disk w.devices w.rules old start seen (entry_of w p new call Plain) quiet)
      (λ refused. refused_leaves w.disk w.devices w.rules old start seen (entry_of w p new call Plain) refl (λ known succeeds.
      refused start (subst (λ o. From w o start) t.opened is) seen (goes_on v p.me.0 t.begun.on t.begun.same_calls t.begun.first t.begun.calls t.stands.signed)
      (subst (λ o. ToldBy (At w o) start seen) t.opened
      (told_then w old start seen t.stands.tells (told_before (w.disk.contents old.file.cells.disk) start seen (entry_of w p new call Plain) known)))
      (subst (λ n. (plain_step (replay start seen) n call).reply.status ≡ Success) t.begun.on.number succeeds)))
      either

  pub counts : (new : Store D A C) (call : Request) → Adds w.disk w.devices w.rules old new → LeavesAllKeys w v call → Led new call Plain own (λ m. Unit {0})
  counts new call adds quiet start is = (adds start (As w old.opened) seen (with own) (entry_of w p new call Plain) (subst (For w old start (As w old.opened) seen) kept (t.stands.each start is)) (leaves new call start is quiet) (entered new call Plain), tt)

  pub counts_as : (new : Store D A C) (call : Request) (P : model.Store → Type 0) → AddsAs w.disk w.devices w.rules old new P → LeavesAllKeys w v call → Led new call Plain own P
  counts_as new call P adds quiet start is = adds start (As w old.opened) seen (with own) (entry_of w p new call Plain) (subst (For w old start (As w old.opened) seen) kept (t.stands.each start is)) (leaves new call start is quiet) (entered new call Plain)

  pub steps : (new : Store D A C) (call : Request) (pair : ℕ × ℕ) (P : model.Store → Type 0) → Steps w.disk w.devices w.rules old new pair P → 0 < names pair.0 pair.1 v.holding → LeavesAllKeys w v call →
      Led new call Plain own P
  steps new call pair P stepped some quiet start is = stepped start (As w old.opened) seen (with own) (entry_of w p new call Plain) (subst (For w old start (As w old.opened) seen) kept (t.stands.each start is))
      (subst (λ pairs. 0 < named pair.0 pair.1 pairs) kept (has pair some)) (leaves new call start is quiet) (entered new call Plain)

  pub reads : (new : Store D A C) (call : Request) (id : ℕ) (mark : FaultMark) (P : model.Store → Type 0) → Reads w.disk w.devices w.rules old new id mark P →
      may_change_keys call ≡ false → ReadsKey w v call id → Led new call mark own P
  reads new call id mark P read quiet asks start is = read start (As w old.opened) seen (with own) (entry_of w p new call mark) (subst (For w old start (As w old.opened) seen) kept (t.stands.each start is))
      (reading w v p entries t.begun old start call mark new id t.stands.signed t.opened t.stands.tells (subst (λ o. From w o start) t.opened is) quiet asks) (entered new call mark)

  pub reads_and_gives : (new : Store D A C) (call : Request) (id : ℕ) (pair : ℕ × ℕ) (P : model.Store → Type 0) → ReadsAndGives w.disk w.devices w.rules old new id pair P →
      IsHolding (pair ∷ own) → may_change_keys call ≡ false → ReadsKey w v call id → Led new call Plain (pair ∷ own) P
  reads_and_gives new call id pair P read holding quiet asks start is = read start (As w old.opened) seen all (with (pair ∷ own)) (entry_of w p new call Plain) (t.stands.each start is) (given pair) (with_holding all p.me.0.number (pair ∷ own) holding are)
      (reading w v p entries t.begun old start call Plain new id t.stands.signed t.opened t.stands.tells (subst (λ o. From w o start) t.opened is) quiet asks) (entered new call Plain)

  pub makes : (new : Store D A C) (asked : Call) (call : Request) (mark : FaultMark) (P : model.Store → Type 0) → Makes w.disk w.devices w.rules old new asked mark P →
      call ≡ OnStore asked → Led new call mark own P
  makes new asked call mark P made is_call start is = made start (As w old.opened) seen (with own) (entry_of w p new call mark) (subst (For w old start (As w old.opened) seen) kept (t.stands.each start is)) is_call (entered new call mark)

  -- a ranked turn that leads on from every start, where P held of the one-thread store before it
  abbrev pub LedBefore : Store D A C → Request → FaultMark → Pairs → (model.Store → Type 0) → Type 0
  LedBefore new call mark own' P = (start : Service) → From w old.opened start → For w new start (As w old.opened) (seen ++ entry_of w p new call mark ∷ []) (with own')
      × HasModel (ToldBy (At w old.opened) start (seen ++ entry_of w p new call mark ∷ [])) start seen P

  pub turned_before : {new : Store D A C} (call : Request) (mark : FaultMark) (own' : Pairs) (P : model.Store → Type 0) → IsSteady w old new → LedBefore new call mark own' P → IsTurned w p new call mark own' (DecidesBefore w P)
  turned_before {new} call mark own' P k led = record {
    stands = renews new call mark own' k (λ start is. (led start is).0);
    decided = λ start is.
        subst (λ o. HasModel (ToldBy (At w o) start (seen ++ entry_of w p new call mark ∷ [])) start seen P) t.opened (led start (subst (λ o. From w o start) (sym t.opened) is)).1;
  }

  -- what holds of the store's model was decided before an entry
  decided : (P : model.Store → Type 0) (start : Service) (e : Entry) (from : For w old start (As w old.opened) seen all) → P from.holds.model → HasModel (ToldBy (At w old.opened) start (seen ++ e ∷ [])) start seen P
  decided P start e from is =
      has_model w.disk w.devices w.rules from.holds (λ known. told_now w old start seen t.stands.tells (told_before (w.disk.contents old.opened.file.value.cells.disk) start seen e known)) is

  pub destroys : (new : Store D A C) (call : Request) (id : ℕ) (mark : FaultMark) (P : model.Store → Type 0) → Destroys w.disk w.devices w.rules old new id mark P →
      call ≡ OnStore (Destroy id) → LedBefore new call mark own P
  destroys new call id mark P destroyed is_call start is = let from = t.stands.each start is in
      let n = destroyed start (As w old.opened) seen all (entry_of w p new call mark) from is_call (entered new call mark) in
      (subst (For w new start (As w old.opened) (seen ++ entry_of w p new call mark ∷ [])) kept n.0, decided P start (entry_of w p new call mark) from n.1)

  pub creates : (new : Store D A C) (call : Request) (caller : ℕ) (lease : Option lent.Reading) (records : model.Store → Result Attributes Status → Type 0) (bytes : List ℕ) (pair : ℕ × ℕ) (mark : FaultMark) (P : model.Store → Type 0) →
      Creates w.disk w.devices w.rules old new caller lease records (λ m. bytes) pair mark P → IsHolding v.holding → 0 < names pair.0 pair.1 v.holding → IsOwn lease v.holding → caller ≡ v.number →
      CreatesKey w v caller call records bytes → LedBefore new call mark (without_pair pair own) P
  creates new call caller lease records bytes pair mark P created holding some own_lease is_caller makes start is = let from = t.stands.each start is in
      let number : p.me.0.number ≡ caller = t.begun.on.number ∙ sym is_caller in
      let goes = goes_on v p.me.0 t.begun.on t.begun.same_calls t.begun.first t.begun.calls t.stands.signed in
      let is_start : From w w.opened start = subst (λ o. From w o start) t.opened is in
      let then : IsTold (w.disk.contents old.file.cells.disk) start seen → ToldBy w start seen = λ known. subst (λ o. ToldBy (At w o) start seen) t.opened
      (told_then w old start seen t.stands.tells known) in
      let n = created start (As w old.opened) seen all (with (without_pair pair own)) (entry_of w p new call mark) from (among lease own_lease) (taken pair some) (with_holding all p.me.0.number (without_pair pair own) (fewer pair own (mine holding)) are) (record {
        by = number;
        keeps = makes.keeps;
        leaves = λ known recorded is_recorded. subst (λ k. (plain_step (replay start seen) k call).service.store ≡ (created_unless (replay start seen).store caller recorded bytes).store) (sym number)
            (makes.leaves start is_start seen goes (then known) recorded is_recorded);
        answers = λ known recorded is_recorded. subst (λ k. (plain_step (replay start seen) k call).reply ≡ (created_unless (replay start seen).store caller recorded bytes).reply) (sym number)
            (makes.answers start is_start seen goes (then known) recorded is_recorded);
      }) (entered new call mark) in
      (n.0, decided P start (entry_of w p new call mark) from n.1)

  pub copies : (new : Store D A C) (call : Request) (caller source : ℕ) (stated : Attributes) (pair : ℕ × ℕ) (mark : FaultMark) (P : model.Store → Type 0) → IsSteady w old new →
      Copies w.disk w.devices w.rules old new caller source stated pair mark P → IsHolding v.holding → 0 < names pair.0 pair.1 v.holding → caller ≡ v.number →
      call ≡ OnStore (Copy source stated) → LedBefore new call mark (without_pair pair own) P
  copies new call caller source stated pair mark P k copied holding some is_caller is_call start is =
      let n = copied start (As w old.opened) seen all (with (without_pair pair own)) (entry_of w p new call mark) (t.stands.each start is) (taken pair some) (with_holding all p.me.0.number (without_pair pair own) (fewer pair own (mine holding)) are)
      (t.begun.on.number ∙ sym is_caller) is_call (entered new call mark) in
      (n.0, model_as (λ known. ⊎_elim (λ (e : is_some (w.disk.contents old.opened.file.value.cells.disk) ≡ true). inl (k.tells ∙ (t.stands.tells ∙ e))) (λ none. inr none) known) (λ m is. is) n.1)
