-- A caller that has seen what another one had.
use Rattle.callers.proofs.Common.{All, AreOperations, Bool, Caller, Entry, IsClear, IsHolding, IsOwnPart, IsReady, Legal, Opened, OwnCalls, SameButPass, StartsWith, View, World, ap, arith, caller_of, calls_by, cond, count_by, entries_of, false, joined, leases_of, length, longer, nat_lt, own_of, replay, subst, sym, true, vec_capacity, ◌∙◌, ◌≡◌, ◌≤◌, ◌⊎◌, ToldBy}
use Rattle.turn_history.proofs.Using.{longer_left, longer_right}
use Rattle.callers.proofs.Journeys.{own_later, seen_begins, told_front}

-- the longer of two is one of them
one_of : {A : Type 0} (P : A → Type 0) (b : Bool) (x y : A) → P x → P y → P (cond b x y)
one_of P true x y p q = p
one_of P false x y p q = q

module _ {D A C : Type 0} (w : World D A C) (old new : Caller D A C) (other : View Entry (Opened D A C)) (r : IsReady w 0 old) (is : new.pass.me.0 ≡ joined old.pass.me.0 other)
    (order : StartsWith old.pass.me.0.seen other.seen ⊎ StartsWith other.seen old.pass.me.0.seen) where
  seen_is : new.pass.me.0.seen ≡ longer old.pass.me.0.seen other.seen
  seen_is = ap (λ (v : View Entry (Opened D A C)). v.seen) is

  pub own_seen : StartsWith new.pass.me.0.seen old.pass.me.0.seen
  own_seen = subst (λ s. StartsWith s old.pass.me.0.seen) (sym seen_is) (longer_left old.pass.me.0.seen other.seen order)

  pub other_seen : StartsWith new.pass.me.0.seen other.seen
  other_seen = subst (λ s. StartsWith s other.seen) (sym seen_is) (longer_right old.pass.me.0.seen other.seen order)

  legal_still : Legal w (entries_of other.seen) → Legal w (entries_of new.pass.me.0.seen)
  legal_still legal = subst (λ s. Legal w (entries_of s)) (sym seen_is) (one_of (λ s. Legal w (entries_of s)) (nat_lt (length old.pass.me.0.seen) (length other.seen)) other.seen old.pass.me.0.seen legal r.legal)

  pub learned : new.pass.table_id ≡ old.pass.table_id → new.pass.me.1 ≡ old.pass.me.1 → OwnCalls caller_of new.pass.me.0 → other.weight ≡ 0 → Legal w (entries_of other.seen) → SameButPass old new → IsReady w 0 new
  learned table out calls weightless legal same =
      let v = old.pass.me.0 in let u = new.pass.me.0 in
      let number : u.number ≡ v.number = ap (λ (x : View Entry (Opened D A C)). x.number) is in
      let holding : u.holding ≡ v.holding = ap (λ (x : View Entry (Opened D A C)). x.holding) is in
      let first : 1 ≤ u.number = let a = r.at.first in omega arith in
      let whole : StartsWith (entries_of u.seen) (entries_of v.seen) = seen_begins v u own_seen in record {
        at = record {
          table = table ∙ r.at.table;
          outside = (ap (λ (x : View Entry (Opened D A C)). x.ticket) is ∙ r.at.outside.0, ap (λ (x : View Entry (Opened D A C)). x.in_turn) is ∙ r.at.outside.1, out ∙ r.at.outside.2);
          based = ap (λ (x : View Entry (Opened D A C)). x.base) is ∙ r.at.based;
          first = first;
          calls = calls;
          holding = subst IsHolding (sym holding) r.at.holding;
        };
        number = number ∙ (r.number ∙ sym same.number);
        last = let a = r.last in let b = same.number in omega arith;
        one = let a = ap (λ (x : View Entry (Opened D A C)). x.weight) is in let b = r.one in omega arith;
        legal = legal_still legal;
        sound = r.sound;
        operations = r.operations;
        stand = subst (λ h. AreOperations h.list.items r.operations) (sym same.handles) r.stand;
        own = λ start starts tells.
            let here : ToldBy w start (entries_of v.seen) = told_front (w.disk.contents w.opened.file.value.cells.disk) start (entries_of u.seen) (entries_of v.seen) whole tells in
            let mine : calls_by caller_of u.number (entries_of u.seen) ≡ calls_by caller_of v.number (entries_of v.seen) =
            calls (omega arith) ∙ (ap (λ (x : View Entry (Opened D A C)). x.calls) is ∙ sym (r.at.calls (let a = r.at.first in omega arith))) in
            let kept : own_of (replay start (entries_of u.seen)) v.number ≡ own_of (replay start (entries_of v.seen)) v.number =
            own_later v.number start (entries_of u.seen) (entries_of v.seen) whole (ap (λ n. calls_by caller_of n (entries_of u.seen)) (sym number) ∙ mine) in
            let own : own_of (replay start (entries_of u.seen)) new.number ≡ own_of (replay start (entries_of v.seen)) old.number =
            ap (own_of (replay start (entries_of u.seen))) (same.number ∙ sym r.number) ∙ (kept ∙ ap (own_of (replay start (entries_of v.seen))) r.number) in
            let place : new.stream.place ≡ old.stream.place = ap (λ s. s.place) same.stream in
            subst (λ p. IsOwnPart r.operations p (own_of (replay start (entries_of u.seen)) new.number)) (sym place)
            (subst (IsOwnPart r.operations old.stream.place) (sym own) (r.own start starts here));
        leases = λ f. ap (count_by f) holding ∙ (r.leases f ∙ ap (λ h. count_by f (leases_of h.list.items)) (sym same.handles));
        clear = subst (λ v. All IsClear v.items) (sym same.spares) r.clear;
        five = let a = ap (λ h. length (leases_of h.list.items)) same.handles in let b = ap (λ s. length s.items) same.spares in let c = r.five in omega arith;
        room = let a = ap vec_capacity same.spares in let b = r.room in omega arith;
        seed = ap (λ s. s.seed) same.stream ∙ r.seed;
        stream_of = ap (λ s. s.caller) same.stream ∙ (r.stream_of ∙ sym same.number);
        turns = let a = ap (λ (x : View Entry (Opened D A C)). x.turns_left) is in let b = same.spent in let c = r.turns in omega arith;
        words = let a = ap (λ s. s.place) same.stream in let b = same.spent in let c = r.words in omega arith;
        spent = let a = same.spent in let b = r.spent in omega arith;
      }
