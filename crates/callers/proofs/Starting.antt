-- A caller before its first call.
use Rattle.callers.proofs.Common.{All, All-weaker, AreIdle, AreOperations, Caller, Entry, HandleOperation, Inactive, IsClear, IsHolding, IsOperation, IsOutside, IsOwnPart, IsReady, IsSoundStore, Legal, List, Mine, None, Opened, OperationHandle, OwnCalls, RandomStream, Service, Some, TURNS, World, [], ap, arith, caller_of, count_by, entries_of, get_or, length, new_pass, own_of, refl, replay, start_of, start_own, subst, suc, sym, vec_capacity, zero, ℕ, ◌-◌, ◌<◌, ◌∙◌, ◌∷◌, ◌≡◌, ◌≤◌, IsStartOf}
use Rattle.callers.proofs.Retiring.{no_lease_left}

abbrev all_inactive : List HandleOperation
all_inactive = Inactive ∷ Inactive ∷ Inactive ∷ Inactive ∷ []

inactive_at : (i : ℕ) → get_or all_inactive i Inactive ≡ Inactive
inactive_at zero = refl
inactive_at (suc zero) = refl
inactive_at (suc (suc zero)) = refl
inactive_at (suc (suc (suc zero))) = refl
inactive_at (suc (suc (suc (suc i)))) = refl

inactive_before : (i : ℕ) → get_or (Inactive ∷ all_inactive) i Inactive ≡ Inactive
inactive_before zero = refl
inactive_before (suc i) = inactive_at i

four_inactive : (cells : List OperationHandle) → length cells ≡ 4 → AreIdle cells → AreOperations cells all_inactive
four_inactive cells four idle = record {
  cells_are = four;
  count = refl;
  each = λ i c lt at. subst (λ o. IsOperation c o) (sym (inactive_at i)) (of i c lt at).0;
  over = λ i c lt at ended. (of i c lt at).1;
}
  where
    of : (i : ℕ) (c : OperationHandle) → i < 4 → c ≡ get_or cells i c → IsOperation c Inactive × (c.lease ≡ None)
    of i c lt at = subst (λ (x : OperationHandle). IsOperation x Inactive × (x.lease ≡ None)) (sym at) (idle i c (omega arith))

module _ {D A C : Type 0} (w : World D A C) where
  own_at_start : (start : Service) (number : ℕ) → IsStartOf w start → IsOwnPart all_inactive 0 (own_of start number)
  own_at_start start number is =
      subst (λ (s : Service). IsOwnPart all_inactive 0 (own_of s number)) (sym is.is)
      (start_own (IsOwnPart all_inactive 0) (start_of is.settings is.found) (record { drawn = refl; handles = refl; each = λ handle low high. inactive_before handle ∙ sym (inactive_at (handle - 1)) }) number)

  record IsFresh {V : Type 0} (number : ℕ) (m : Mine V Entry (Opened D A C)) : Type 0 where
    outside : IsOutside m
    based : m.0.base ≡ Some w.opened
    is : m.0.number ≡ number
    calls : OwnCalls caller_of m.0
    holding : m.0.holding ≡ []
    seen : m.0.seen ≡ []
    weight : m.0.weight ≡ 1
    turns : m.0.turns_left ≡ TURNS

  fresh : {V : Type 0} (number : ℕ) (m : Mine V Entry (Opened D A C)) → m ≡ (new_pass w.opened number, []) → IsFresh number m
  fresh {V} number m me = subst (IsFresh {V = V} number) (sym me) (record {
    outside = (refl, refl, refl);
    based = refl;
    is = refl;
    calls = λ some. refl;
    holding = refl;
    seen = refl;
    weight = refl;
    turns = refl;
  })

  -- nothing was called yet
  pub starts_ready : (c : Caller D A C) → c.pass.table_id ≡ w.lock → c.pass.me ≡ (new_pass w.opened c.number, []) → 1 ≤ c.number → c.number ≤ 16 → ((start : Service) → IsStartOf w start → IsSoundStore start.store) →
      length c.handles.list.items ≡ 4 → AreIdle c.handles.list.items → length c.spares.items ≡ 5 → All IsClear c.spares.items → 5 ≤ vec_capacity c.spares →
      c.stream ≡ record { seed = w.opened.seed.value; caller = c.number; place = 0 } → c.spent ≡ 0 → IsReady w 0 c
  starts_ready c table me first last sound four idle five clear room stream none =
      let f = fresh c.number c.pass.me me in
      let out = no_lease_left c.handles.list.items (All-weaker (λ (x : OperationHandle). IsOperation x Inactive × (x.lease ≡ None)) (λ (x : OperationHandle). x.lease ≡ None) (λ x h. h.1) c.handles.list.items idle) in record {
        at = record {
          table = table;
          outside = f.outside;
          based = f.based;
          first = let n = f.is in omega arith;
          calls = f.calls;
          holding = subst IsHolding (sym f.holding) (record { leases = omega arith; fillings = omega arith });
        };
        number = f.is;
        last = last;
        one = f.weight;
        legal = subst (λ seen. Legal w (entries_of seen)) (sym f.seen) (record { signed = tt; caused = tt; rising = tt; allowed = λ start is tells. tt });
        sound = sound;
        operations = all_inactive;
        stand = four_inactive c.handles.list.items four idle;
        own = λ start is tells.
            let place = ap (λ (s : RandomStream). s.place) stream in
            subst (λ p. IsOwnPart all_inactive p (own_of (replay start (entries_of c.pass.me.0.seen)) c.number)) (sym place)
            (subst (λ seen. IsOwnPart all_inactive 0 (own_of (replay start (entries_of seen)) c.number)) (sym f.seen) (own_at_start start c.number is));
        leases = λ g. ap (count_by g) (f.holding ∙ sym out);
        clear = clear;
        five = let a = ap length out in omega arith;
        room = room;
        seed = ap (λ (s : RandomStream). s.seed) stream;
        stream_of = ap (λ (s : RandomStream). s.caller) stream;
        turns = let a = f.turns in omega arith;
        words = let a = ap (λ (s : RandomStream). s.place) stream in omega arith;
        spent = omega arith;
      }
