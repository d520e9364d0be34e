-- A pass in its turn and after it.
use Rattle.locked_store.proofs.Common.{AllByRecursion, Entry, GoesOn, IsCaller, List, Option, OwnCalls, Pairs, SpendsOneTurn, StartsWith, View, [], after_turn, ap, arith, begins_longer, caller_of, calls_by, entries-append, entries_of, entries_one, option_list, subst, sym, ◌++◌, ◌+◌, ◌∙◌, ◌∷◌, ◌≡◌, ◌≤◌}

-- the callers of a history with one more entry, and without it
pub signed_push : (h : List Entry) (e : Entry) → AllByRecursion IsCaller h → IsCaller e → AllByRecursion IsCaller (h ++ e ∷ [])
signed_push [] e all one = (one, tt)
signed_push (x ∷ h) e all one = (all.0, signed_push h e all.1 one)

pub signed_front : (h more : List Entry) → AllByRecursion IsCaller (h ++ more) → AllByRecursion IsCaller h
signed_front [] more all = tt
signed_front (x ∷ h) more all = (all.0, signed_front h more all.1)

module _ {B : Type 0} where
  -- the history with the entry of a turn, if it has one
  pub with_entry : (w u : View Entry B) (e : Option Entry) (own : Pairs) → u ≡ after_turn w e own → entries_of u.seen ≡ entries_of w.seen ++ option_list e
  with_entry w u e own is = ap (λ (x : View Entry B). entries_of x.seen) is ∙ (entries-append w.seen (e ∷ []) ∙ ap (λ l. entries_of w.seen ++ l) (entries_one e))

  -- what a pass finds in its turn goes on from what it had seen
  pub goes_on : (v w : View Entry B) → SpendsOneTurn v w → w.calls ≡ v.calls → 1 ≤ w.number → OwnCalls caller_of w → AllByRecursion IsCaller (entries_of w.seen) → GoesOn v (entries_of w.seen)
  goes_on v w on calls first own signed = record {
    since = (entries_of on.prefix.0, ap entries_of on.prefix.1 ∙ entries-append v.seen on.prefix.0);
    calls = ap (λ n. calls_by caller_of n (entries_of w.seen)) (sym on.number) ∙ (own (omega arith) ∙ calls);
    signed = signed;
  }

  -- the turn is spent
  pub after_one : (v w u : View Entry B) (e : Option Entry) (own : Pairs) → SpendsOneTurn v w → u ≡ after_turn w e own → SpendsOneTurn v u
  after_one v w u e own on is = record {
    number = ap (λ (x : View Entry B). x.number) is ∙ on.number;
    weight = ap (λ (x : View Entry B). x.weight) is ∙ on.weight;
    turns_left = ap (λ (x : View Entry B). x.turns_left + 1) is ∙ on.turns_left;
    prefix = subst (λ l. StartsWith l v.seen) (sym (ap (λ (x : View Entry B). x.seen) is)) (begins_longer w.seen v.seen (e ∷ []) on.prefix);
  }
