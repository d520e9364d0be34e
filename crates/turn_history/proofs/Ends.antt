-- The rule at the making and at the end of a lock.
use Rattle.turn_history.proofs.Common.{All-nil, Away, Closing, Enters, Final, Holding, Home, Kept, Knows, List, LockState, Mine, Option, Seen, Some, View, [], ap, arith, at_longer, at_set, came, dite, entries_of, false, first_view, get_elem?, get_or, held_by, inl, inr, length, length-replicate, none, opening, refl, replicate, some, some-ne-none, spent, step, subst, suc, sym, zero, ℕ, ℕ_discrete, ⊎_elim, ◌++◌, ◌-◌, ◌<◌, ◌∙◌, ◌∷◌, ◌≡◌, ◌≢◌, ◌≤◌}
use mathlib.Core.Option as maybe
use Rattle.turn_history.proofs.{Lists.at_snoc_end, Lists.total_two, Lists.total_snoc, Keeping.Signed, Keeping.knows_nothing, Keeping.no_pass, Keeping.place_kept, Keeping.same_at, Keeping.some_same}

module _ {V E B : Type 0} (by : E → ℕ) (stands : V → List E → List Holding → Type 0) (base : V → B) (key : B) (passes : ℕ) where
  pub opens : (x : V) → 0 < passes → passes ≤ 16 → stands x [] (replicate passes []) → base x ≡ key → Kept by stands base key passes (opening (0 ∷ 0 ∷ []) (Some x ∷ []) (first_view key passes))
  opens x some_passes few stood same = let r : LockState E B = record { turns = []; holdings = replicate passes []; tickets = 0; made = 0; maker = 0; seat = λ _. 0; holder = λ _. 0; base = key } in let first : View E B = first_view key passes in record {
    course = r;
    words = refl;
    order = omega arith;
    fuel = omega arith;
    weighs = omega arith;
    sized = (length-replicate passes [], omega arith);
    based = refl;
    signed = All-nil (Signed by stands base key passes 0);
    owned = λ n some_n. inl (all_empty passes (n - 1));
    each = λ j u e. ⊎_elim (λ (x : (j ≡ 0) × (first ≡ u)). subst (λ (y : ℕ × View E B). Knows by r y.0 y.1) (λ i. (sym x.0 i, x.1 i)) (no_pass by stands base key passes r 0 first ([], refl) (λ b e. sym (some_same key b e)) refl refl refl (λ z. (refl, refl)) refl))
        (λ (x : (j ≢ 0) × (get_elem? (first ∷ []) j ≡ some u)). absurd (alone j u x.0 x.1)) (at_set (first ∷ []) 0 j first u e);
    place = inl record { value = x; at_home = refl; stood = stood; same_base = same; nobody = λ j u e. ⊎_elim (λ (x : (j ≡ 0) × (first ≡ u)). ap (λ (y : View E B). y.in_turn) (sym x.1)) (λ (x : (j ≢ 0) × (get_elem? (first ∷ []) j ≡ some u)). absurd (alone j u x.0 x.1)) (at_set (first ∷ []) 0 j first u e) };
  }
    where
      alone : (j : ℕ) (u : View E B) → j ≢ 0 → get_elem? (first_view key passes ∷ []) j ≡ some u → ⊥
      alone zero u other e = other refl
      alone (suc j) u other e = some-ne-none u (sym e)

      all_empty : (n i : ℕ) → get_or {A = Holding} (replicate n []) i [] ≡ []
      all_empty zero i = refl
      all_empty (suc n) zero = refl
      all_empty (suc n) (suc i) = all_empty n i

  -- the seat that gathers, at the end
  pub sits : (slots : ℕ) (me : Mine V E B) → Enters (Kept by stands base key passes) slots 0 (λ n w. came (step slots 0 0 0 none) me n (w, []))
  sits slots me s k deep fits = let r = k.course in (
    spent,
    record {
      course = r;
      words = k.words;
      order = k.order;
      fuel = let b = total_snoc (λ (u : View E B). u.turns_left) s.views spent in let f = k.fuel in omega arith;
      weighs = let b = total_snoc (λ (u : View E B). u.weight) s.views spent in let f = k.weighs in omega arith;
      sized = k.sized;
      based = k.based;
      signed = k.signed;
      owned = λ m some_m. ⊎_elim (λ e. inl e) (λ (x : (u : View E B) × (get_elem? s.views (r.seat m) ≡ some u) × (u.number ≡ m)). inr (x.0, at_longer s.views (spent ∷ []) (r.seat m) x.0 x.1, x.2)) (k.owned m some_m);
      each = λ j u e. ⊎_elim (λ old. k.each j u old) (λ (x : (spent ≡ u) × (j ≡ length s.views)). subst (λ (y : View E B). Knows by r j y) x.0 (knows_nothing by stands base key passes r j)) (at_snoc_end s.views spent u j e);
      place = place_kept by stands base key passes s r r s.words (s.views ++ spent ∷ []) refl refl refl
          (λ nobody j u e. ⊎_elim (λ old. nobody j u old) (λ (x : (spent ≡ u) × (j ≡ length s.views)). ap (λ (y : View E B). y.in_turn) (sym x.0)) (at_snoc_end s.views spent u j e))
          (λ j u there now. (u, at_longer s.views (spent ∷ []) j u there, now)) k.place;
    },
    (refl, refl, refl, refl, refl, refl),
  )

  empties : (all : List Holding) → ((n : ℕ) → 0 < n → held_by all n ≡ []) → all ≡ replicate (length all) []
  empties [] none_out = refl
  empties (x ∷ xs) none_out = λ i. none_out 1 (omega arith) i ∷ empties xs (λ n some_n. ap (λ (k : ℕ). get_or (x ∷ xs) k []) (back n some_n) ∙ none_out (suc n) (omega arith)) i
    where
      back : (n : ℕ) → 0 < n → suc (n - 1) ≡ suc n - 1
      back n some_n = omega arith

  pub closes : (slots id : ℕ) (v : View E B) (ws : List ℕ) (xs : List (Option V)) → v.number ≡ 0 → v.in_turn ≡ false → v.weight ≡ passes → Final (Seen (Kept by stands base key passes) id v) ws xs
      → (x : V) × (get_elem? xs 0 ≡ some (Some x)) × Closing by stands base key passes x v.accounts
  closes slots id v ws xs watching out whole final = let s = final.0 in let k = final.1.0 in let at = final.1.1 in let r = k.course in let mine = k.each id v at in let size = k.sized in
      let alone : (j : ℕ) (u : View E B) → get_elem? s.views j ≡ some u → 0 < u.number → ⊥ = λ j u there some_n. dite (ℕ_discrete j id)
      (λ e. let same = ap (λ (y : View E B). y.number) (same_at by stands base key passes s.views id j v u at there e) in absurd (omega arith))
      (λ ne. let heavy = ((k.each j u there).numbered some_n).2 in let two = total_two (λ (y : View E B). y.weight) s.views j id u v there at ne in let w = k.weighs in absurd (omega arith)) in
      ⊎_elim
      (λ (h : Home by stands base r s). (
        h.value,
        final.4 0 (Some h.value) (ap (λ (l : List (maybe.Option (Option V))). get_elem? l 0) h.at_home),
        record {
          turns = r.turns;
          stood = subst (λ (l : List Holding). stands h.value (entries_of r.turns) l) (empties r.holdings (λ n some_n. ⊎_elim (λ e. e) (λ (x : (u : View E B) × (get_elem? s.views (r.seat n) ≡ some u) × (u.number ≡ n)). absurd (alone (r.seat n) x.0 x.1 (let is = x.2 in omega arith))) (k.owned n some_n)) ∙ ap (λ (n : ℕ). replicate n []) size.0) h.stood;
          same_base = h.same_base ∙ k.based;
          signed = λ i d lt. let a = k.signed i d lt in let le = a.1 in let few = size.1 in (a.0, omega arith);
          seen = λ i d lt. (mine.accounts i d lt).seen;
          called = λ i d lt z. ((mine.accounts i d lt).called z).3;
        },
      ))
      (λ (h : Away by stands base s). let theirs = k.each h.who h.view h.there in absurd (alone h.who h.view h.there (theirs.waits (length r.turns) (theirs.in_its_turn h.turns_now).0).3))
      k.place
