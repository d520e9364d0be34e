-- A caller that ends, handle by handle.
use Rattle.callers.proofs.Common.{All, All-head, All-tail, AreIdle, AreOperations, ArePairs, Caller, Entry, Handles, IfSome, Inactive, IsAt, IsBack, IsChanged, IsOperation, IsRetired, IsRetiring, Legal, List, MakesNoCall, MayGoBack, None, OperationHandle, Option, Pairs, Reading, Some, View, World, [], ap, arith, begins_itself, entries_of, get_or, get_or-set_other, get_or-set_same, is_active, leases_of, length, operation_at, pairs_of, refl, set, subst, suc, sym, with_operation_at, zero, ℕ, ◌++◌, ◌+◌, ◌-◌, ◌<◌, ◌∙◌, ◌∷◌, ◌≡◌, ◌≤◌}
use mathlib.Core.Logic.{dite}
use native.Mathlib.Decide.{dec_lt}
use Rattle.callers.proofs.{Changing.length_alike, Handling.left, Handling.may_go_back, Journeys.begins_through}

no_pair_left : (own : Pairs) → ArePairs own [] → own ≡ []
no_pair_left [] are = refl
no_pair_left (p ∷ ps) are = let l = length_alike (p ∷ ps) [] are in absurd (omega arith)

-- handles without a lease
pub no_lease_left : (cells : List OperationHandle) → All (λ (c : OperationHandle). c.lease ≡ None) cells → leases_of cells ≡ []
no_lease_left [] none = refl
no_lease_left (c ∷ cs) none =
    ap (λ o. pairs_of o ++ leases_of cs) (All-head (λ (x : OperationHandle). x.lease ≡ None) c cs none) ∙ no_lease_left cs (All-tail (λ (x : OperationHandle). x.lease ≡ None) c cs none)

pub any_default : (cells : List OperationHandle) (i : ℕ) (c d : OperationHandle) → i < length cells → get_or cells i c ≡ get_or cells i d
any_default [] i c d lt = absurd (omega arith)
any_default (x ∷ xs) zero c d lt = refl
any_default (x ∷ xs) (suc i) c d lt = any_default xs i c d (omega arith)

module _ {B : Type 0} where
  pub stays : (v : View Entry B) → MakesNoCall v v
  stays v = record { number = refl; weight = refl; calls = refl; seen = begins_itself v.seen }

  pub goes_on : (v u t : View Entry B) → MakesNoCall v u → MakesNoCall u t → MakesNoCall v t
  goes_on v u t a b = record { number = b.number ∙ a.number; weight = b.weight ∙ a.weight; calls = b.calls ∙ a.calls; seen = begins_through t.seen u.seen v.seen b.seen a.seen }

module _ {D A C : Type 0} (w : World D A C) where
  -- at its end everything is wiped
  module _ (c : Caller D A C) (r : IsRetiring w 4 c) where
    each_idle : AreIdle c.handles.list.items
    each_idle = λ i d lt.
        let cells = c.handles.list.items in let cell = get_or cells i d in let few : i < 4 = let n = r.stand.cells_are in omega arith in
        let at : cell ≡ get_or cells i cell = any_default cells i d cell lt in
        let is : get_or r.operations i Inactive ≡ Inactive = ap (λ j. get_or r.operations j Inactive) (let e : i ≡ i + 1 - 1 = omega arith in e) ∙ r.wiped (i + 1) (omega arith) (omega arith) in
        (subst (λ o. IsOperation cell o) is (r.stand.each i cell few at), r.stand.over i cell few at (ap is_active is))

    pub ends : IsRetired w.lock c
    ends =
        let none = no_lease_left c.handles.list.items (λ i d lt. (each_idle i d lt).1) in record {
          idle = (r.at.table, r.at.outside.1, no_pair_left c.pass.me.0.holding (subst (λ l. ArePairs c.pass.me.0.holding l) none r.leases), r.at.outside.2);
          cells = each_idle;
        }

  -- one handle more
  module _ (handle : ℕ) (old : Caller D A C) (handles : Handles) (new : Caller D A C) (r : IsRetiring w (handle - 1) old) (first : 1 ≤ handle) (last : handle ≤ 4) {lease : Option Reading}
      (change : IsChanged old.handles.list.items handles.list.items r.operations handle Inactive lease) where
    abbrev settled : Caller D A C
    settled = record old { handles = handles }

    pub goes_back : IfSome lease (MayGoBack settled)
    goes_back = may_go_back old settled new change r.leases r.five r.room

    wiped_one : (k : ℕ) → 1 ≤ k → k ≤ handle → operation_at (with_operation_at r.operations handle Inactive) k ≡ Inactive
    wiped_one k low high = dite (dec_lt k handle)
        (λ lt. get_or-set_other r.operations (handle - 1) (k - 1) Inactive Inactive (λ here. absurd (omega arith)) ∙ r.wiped k low (omega arith))
        (λ ge. ap (λ j. get_or (set r.operations (handle - 1) Inactive) j Inactive) (let e : k - 1 ≡ handle - 1 = omega arith in e) ∙ get_or-set_same r.operations (handle - 1) Inactive Inactive (let z = r.stand.count in omega arith))

    quiet_by : (o : Option Reading) → IsBack o settled new → MakesNoCall old.pass.me.0 new.pass.me.0 × (old.pass.me.0.turns_left ≤ new.pass.me.0.turns_left + 1)
    quiet_by None same = subst (λ (c : Caller D A C). MakesNoCall old.pass.me.0 c.pass.me.0 × (old.pass.me.0.turns_left ≤ c.pass.me.0.turns_left + 1)) (sym same) (stays old.pass.me.0, omega arith)
    quiet_by (Some l) given =
        let later = given.later in (record { number = later.on.number; weight = later.on.weight; calls = later.calls; seen = later.on.prefix }, let a = later.on.turns_left in omega arith)

    module _ (back : IsBack lease settled new) where
      pub quiet : MakesNoCall old.pass.me.0 new.pass.me.0
      quiet = (quiet_by lease back).0

      pub same_number : new.number ≡ old.number
      same_number = (left old settled new change r.leases r.five r.room back).number

      pub retiring : IsAt w new.pass → Legal w (entries_of new.pass.me.0.seen) → IsRetiring w handle new
      retiring at legal =
          let l = left old settled new change r.leases r.five r.room back in record {
            at = at;
            legal = legal;
            operations = with_operation_at r.operations handle Inactive;
            stand = subst (λ x. AreOperations x.list.items (with_operation_at r.operations handle Inactive)) (sym l.handles) change.stand;
            wiped = wiped_one;
            leases = l.leases;
            five = l.five;
            room = subst (λ n. 5 ≤ n) (sym l.room) r.room;
            turns = let a = (quiet_by lease back).1 in let b = r.turns in omega arith;
          }
