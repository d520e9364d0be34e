-- What is known of callers once a service is closed, from what is known of those that were retired.
use Rattle.caller_service.proofs.Common.{All, All-cons, All-nil, All-pop, Caller, Entry, IsClosed, IsClosedOver, IsNewCaller, IsReady, List, Some, StartsWith, WasRetired, WereRetired, World, [], account_of, ap, arith, caller_of, calls_by, entries_of, get_or, get_or-set_other, get_or-set_same, get_or_append_left, get_or_push, inl, inr, length, length-append, length-set, map, map-append, refl, reverse, reverse-append, set, subst, sym, ℕ, ◌++◌, ◌+◌, ◌<◌, ◌∙◌, ◌∷◌, ◌≡◌, ◌≤◌}
use Rattle.std.proofs.lemmas.Bool.Decides.{eqb_tells}
use Rattle.turn_history.specs.declared.pass.Account.{Account}
use Rattle.turn_history.proofs.Lists.{entries-append}
use Rattle.callers.proofs.Journeys.{begins_through}

-- what holds of what is made of each, from the last on, holds of each
all_reversed : {X Y : Type 0} (f : X → Y) (P : Y → Type 0) (xs : List X) → All P (map f (reverse xs)) → All (λ x. P (f x)) xs
all_reversed f P [] all = All-nil (λ x. P (f x))
all_reversed f P (x ∷ xs) all =
    let parts = All-pop P (map f (reverse (x ∷ xs))) (map f (reverse xs)) (Some (f x)) (ap (map f) (reverse-append (x ∷ []) xs) ∙ map-append f (reverse xs) (x ∷ [])) all in
    All-cons (λ y. P (f y)) x xs parts.1 (all_reversed f P xs parts.0)

-- one more new caller
pub new_each : {D A C : Type 0} (w : World D A C) (callers more : List (Caller D A C)) (c : Caller D A C) → more ≡ callers ++ c ∷ [] →
    ((k : ℕ) (d : Caller D A C) → k < length callers → IsNewCaller w (k + 1) (get_or callers k d)) → IsNewCaller w (length callers + 1) c →
    (k : ℕ) (d : Caller D A C) → k < length more → IsNewCaller w (k + 1) (get_or more k d)
new_each w callers more c is each here k d lt = elim (eqb_tells k (length callers)) [
  | inl last ↦ subst (λ j. IsNewCaller w (j + 1) (get_or more j d)) (sym last.1) (subst (IsNewCaller w (length callers + 1)) (sym (ap (λ l. get_or l (length callers) d) is ∙ get_or_push callers c d (length callers) refl)) here)
  | inr other ↦
      let low : k < length callers = (let n = ap length is ∙ length-append callers (c ∷ []) in let ne = other.1 in omega arith) in
      subst (IsNewCaller w (k + 1)) (sym (ap (λ l. get_or l k d) is ∙ get_or_append_left callers (c ∷ []) d k low)) (each k d low)
]

-- the first so many of these were retired, and the others are as they were
pub record AreRetiring {D A C : Type 0} (w : World D A C) (count : ℕ) (old now : List (Caller D A C)) : Type 0 where
  pub as_many : length now ≡ length old
  pub done : (k : ℕ) (d : Caller D A C) → k < count → WasRetired w (get_or old k d) (get_or now k d)
  pub rest : (k : ℕ) (d : Caller D A C) → count ≤ k → get_or now k d ≡ get_or old k d

pub one_retired : {D A C : Type 0} (w : World D A C) (at : ℕ) (old now : List (Caller D A C)) (c : Caller D A C) → AreRetiring w at old now → at < length now →
    ((d : Caller D A C) → WasRetired w (get_or old at d) c) → AreRetiring w (at + 1) old (set now at c)
one_retired w at old now c r within here = record {
  as_many = length-set now at c ∙ r.as_many;
  done = λ k d lt. elim (eqb_tells k at) [
    | inl same ↦ subst (λ j. WasRetired w (get_or old j d) (get_or (set now at c) j d)) (sym same.1) (subst (WasRetired w (get_or old at d)) (sym (get_or-set_same now at c d within)) (here d))
    | inr other ↦ subst (WasRetired w (get_or old k d)) (sym (get_or-set_other now at k c d other.1)) (r.done k d (let ne = other.1 in omega arith))
  ];
  rest = λ k d le. get_or-set_other now at k c d (λ same. let z : k ≡ at = same in omega arith) ∙ r.rest k d (omega arith);
}

module _ {D A C : Type 0} (w : World D A C) (disk : D) (devices : A) (old new : List (Caller D A C)) (accounts : List (Account Entry))
    (ready : All (IsReady w 0) old) (retired : WereRetired w old new)
    (are : accounts ≡ map (λ (c : Caller D A C). account_of c.pass.me.0) (reverse new))
    (closed : IsClosed w disk devices accounts) where
  each_seen : All (λ (c : Caller D A C). StartsWith closed.turns c.pass.me.0.seen) new
  each_seen = all_reversed (λ (c : Caller D A C). account_of c.pass.me.0) (λ a. StartsWith closed.turns a.seen) new (subst (All (λ a. StartsWith closed.turns a.seen)) are closed.seen)

  each_called : All (λ (c : Caller D A C). 0 < c.pass.me.0.number → calls_by caller_of c.pass.me.0.number (entries_of closed.turns) ≡ c.pass.me.0.calls) new
  each_called = all_reversed (λ (c : Caller D A C). account_of c.pass.me.0) (λ a. 0 < a.number → calls_by caller_of a.number (entries_of closed.turns) ≡ a.calls) new
      (subst (All (λ a. 0 < a.number → calls_by caller_of a.number (entries_of closed.turns) ≡ a.calls)) are closed.called)

  pub closed_over : IsClosedOver w disk devices old
  closed_over = record {
    history = entries_of closed.turns;
    seen = λ k d lt.
        let c : Caller D A C = get_or old k d in let e : Caller D A C = get_or new k d in
        let q = (retired.each k d lt).quiet in let n = retired.as_many in
        let s : StartsWith closed.turns e.pass.me.0.seen = each_seen k d (omega arith) in
        let t : StartsWith closed.turns c.pass.me.0.seen = begins_through closed.turns e.pass.me.0.seen c.pass.me.0.seen s q.seen in
        (entries_of t.0, ap entries_of t.1 ∙ entries-append c.pass.me.0.seen t.0);
    called = λ k d lt.
        let c : Caller D A C = get_or old k d in let e : Caller D A C = get_or new k d in
        let q = (retired.each k d lt).quiet in let n = retired.as_many in
        let first = (ready k d lt).at.first in
        let h : calls_by caller_of e.pass.me.0.number (entries_of closed.turns) ≡ e.pass.me.0.calls = each_called k d (omega arith) (let m = q.number in omega arith) in
        subst (λ m. calls_by caller_of m (entries_of closed.turns) ≡ c.pass.me.0.calls) q.number (h ∙ q.calls);
    left = record {
      signed = closed.signed;
      legal = closed.legal;
      counts = closed.counts;
      tells = closed.tells;
      promise = closed.promise;
      freed = closed.freed;
      cells = closed.cells;
    };
  }
