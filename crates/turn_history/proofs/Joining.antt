-- A join keeps the rule.
use Rattle.turn_history.proofs.Common.{Account, All, All-append, All-cons, All-nil, Allows, Holding, Joins, Kept, Knows, List, LockState, Mine, Option, Remembers, StartsWith, State, View, [], account, ap, arith, at_set, calls_by, compared, dec_lt, dite, entries_of, false, gathering, get_elem?, get_or, held_by, inl, inr, keeps, length, length-append, longer, merged, none, refl, set, set_else, some, spent, step, subst, suc, sym, true, true≢false, ℕ, ℕ_discrete, ⊎_elim, ◌++◌, ◌+◌, ◌<◌, ◌∙◌, ◌∷◌, ◌≡◌, ◌≢◌, ◌⊎◌}
use Rattle.turn_history.proofs.{Lists.put, Lists.put_here, Lists.put_else, Lists.two_beginnings, Lists.between, Lists.longer_by, Lists.total_set, Keeping.loaded, Keeping.quiet, Keeping.later, Keeping.place_kept, Keeping.place_stays, Keeping.knows_nothing, Keeping.all_set, Keeping.knows_seated, Keeping.nobody_still, Keeping.same_at, Keeping.there_still}

module _ {V E B : Type 0} (by : E → ℕ) (stands : V → List E → List Holding → Type 0) (base : V → B) (key : B) (passes : ℕ) where
  longer_whole : (whole a b : List (Option E)) → a ≡ whole → StartsWith whole b → longer a b ≡ whole
  longer_whole whole a b is st = longer_by (λ l. l ≡ whole) a b (λ _. is)
      (λ lt. let n = length-append b st.0 in let w = ap (λ (l : List (Option E)). length l) st.1 in let la = ap (λ (l : List (Option E)). length l) is in absurd (omega arith))

  joins_kept : (s : State (Option V) (View E B)) (k : Kept by stands base key passes s) (id other : ℕ) (v w both : View E B) (seat' : ℕ → ℕ) → get_elem? s.views id ≡ some v → other ≢ id → get_elem? s.views other ≡ some w
      → both.number ≡ v.number → both.in_turn ≡ v.in_turn → both.turns_left ≡ v.turns_left + w.turns_left → both.weight ≡ v.weight + w.weight → w.in_turn ≡ false → w.holding ≡ []
      → ((n : ℕ) → 0 < n → n ≢ w.number → seat' n ≡ k.course.seat n) → Knows by (record k.course { seat = seat' }) id both
      → Kept by stands base key passes record { words = s.words; homes = s.homes; views = set (set s.views id both) other spent }
  joins_kept s k id other v w both seat' at apart there number turn left weight idle empty seats mine = let r = k.course in let r' : LockState E B = record r { seat = seat' } in let vs : List (View E B) = set s.views id both in
      let there' : get_elem? vs other ≡ some w = set_else s.views id other both apart ∙ there in let theirs_w = k.each other w there in
      let foreign : (n j : ℕ) → 0 < n → r.seat n ≡ j → j ≢ other → n ≢ w.number = λ n j some_n is ne same. let nu = theirs_w.numbered (omega arith) in ne (sym is ∙ (ap r.seat same ∙ nu.0)) in record {
        course = r';
        words = k.words;
        order = k.order;
        fuel = let a = total_set (λ (u : View E B). u.turns_left) s.views id v both at in let b = total_set (λ (u : View E B). u.turns_left) vs other w spent there' in let f = k.fuel in omega arith;
        weighs = let a = total_set (λ (u : View E B). u.weight) s.views id v both at in let b = total_set (λ (u : View E B). u.weight) vs other w spent there' in let f = k.weighs in omega arith;
        sized = k.sized;
        based = k.based;
        signed = k.signed;
        owned = λ m some_m. dite (ℕ_discrete m w.number)
            (λ e. inl (ap (held_by r.holdings) e ∙ (theirs_w.has (omega arith) ∙ empty)))
            (λ ne. ⊎_elim (λ e. inl e)
            (λ (x : (u : View E B) × (get_elem? s.views (r.seat m) ≡ some u) × (u.number ≡ m)). let z = there_still by stands base key passes (λ (u : View E B). u.number ≡ m) s.views id (r.seat m) v both x.0 at (λ e. number ∙ e) x.1 x.2 in
            let far : r.seat m ≢ other = λ e. ne (sym x.2 ∙ ap (λ (y : View E B). y.number) (same_at by stands base key passes s.views other (r.seat m) w x.0 there x.1 e)) in
            inr (z.0, ap (get_elem? (set vs other spent)) (seats m some_m ne) ∙ (set_else vs other (r.seat m) spent far ∙ z.1), z.2)) (k.owned m some_m));
        each = all_set by stands base key passes r' vs other spent
            (knows_nothing by stands base key passes r' other)
            (λ j u far e. ⊎_elim
            (λ (x : (j ≡ id) × (both ≡ u)). subst (λ (y : ℕ × View E B). Knows by r' y.0 y.1) (λ i. (sym x.0 i, x.1 i)) mine)
            (λ (x : (j ≢ id) × (get_elem? s.views j ≡ some u)). knows_seated by stands base key passes r r.made seat' j u (omega arith) (λ n some_n _ is. seats n some_n (foreign n j some_n is far)) (λ _. refl) (k.each j u x.1)) (at_set s.views id j both u e));
        place = place_kept by stands base key passes s r r' s.words (set vs other spent) refl refl refl
            (λ nobody. nobody_still by stands base key passes vs other spent refl (λ j u _ e. nobody_still by stands base key passes s.views id both (turn ∙ nobody id v at) (λ i x _ th. nobody i x th) j u e))
            (λ j u at' now. let z = there_still by stands base key passes (λ (y : View E B). y.in_turn ≡ true) s.views id j v both u at (λ e. turn ∙ e) at' now in
            let far : j ≢ other = λ e. true≢false (sym now ∙ (ap (λ (y : View E B). y.in_turn) (same_at by stands base key passes s.views other j w u there at' e) ∙ idle)) in (z.0, set_else vs other j spent far ∙ z.1, z.2)) k.place;
      }

  was_there : (views : List (View E B)) (id other : ℕ) (both w : View E B) → ¬ (other ≡ id) → get_elem? (set views id both) other ≡ some w → get_elem? views other ≡ some w
  was_there views id other both w apart e = sym (set_else views id other both apart) ∙ e

  pub joins : (id other : ℕ) (v w : View E B) → w.in_turn ≡ false → w.holding ≡ [] → Joins (Kept by stands base key passes) id v other w (merged v w) spent
  joins id other v w idle empty s k at apart e = let there = was_there s.views id other (merged v w) w apart e in let r = k.course in let mine = k.each id v at in let theirs = k.each other w there in
      joins_kept s k id other v w (merged v w) r.seat at apart there refl refl refl refl idle empty (λ n _ _. refl)
      record {
        seen = longer_by (StartsWith r.turns) v.seen w.seen (λ _. mine.seen) (λ _. theirs.seen);
        based = mine.based;
        numbered = λ z. let a = mine.numbered z in let w0 = a.2 in (a.0, a.1, omega arith, a.3);
        called = λ z. let a = mine.called z in (
          a.0,
          longer_by (λ l. calls_by by v.number (entries_of l) ≡ v.calls) v.seen w.seen (λ _. a.1)
              (λ lt. between by v.number r.turns v.seen w.seen theirs.seen (two_beginnings r.turns v.seen w.seen mine.seen theirs.seen (omega arith)) (a.1 ∙ sym a.0) ∙ a.1),
        );
        has = mine.has;
        waits = mine.waits;
        in_its_turn = λ z. let a = mine.in_its_turn z in (a.0, longer_whole r.turns v.seen w.seen a.1 theirs.seen, a.2);
        makes = mine.makes;
        accounts = All-append (Remembers by r.turns r.seat r.made id v.number) v.accounts (account 0 v.seen [] ∷ account 0 w.seen [] ∷ []) mine.accounts
            (All-cons (Remembers by r.turns r.seat r.made id v.number) (account 0 v.seen []) (account 0 w.seen [] ∷ []) record { seen = mine.seen; called = λ z. absurd (omega arith) }
            (All-cons (Remembers by r.turns r.seat r.made id v.number) (account 0 w.seen []) [] record { seen = theirs.seen; called = λ z. absurd (omega arith) } (All-nil (Remembers by r.turns r.seat r.made id v.number))));
      }

  pub gathers : (id other : ℕ) (v w : View E B) → v.number ≡ 0 → w.in_turn ≡ false → w.holding ≡ [] → Joins (Kept by stands base key passes) id v other w (gathering v w) spent
  gathers id other v w watching idle empty s k at apart e = let there = was_there s.views id other (gathering v w) w apart e in let r = k.course in let mine = k.each id v at in let theirs = k.each other w there in
      let seat' : ℕ → ℕ = put r.seat w.number id in let r' : LockState E B = record r { seat = seat' } in
      joins_kept s k id other v w (gathering v w) seat' at apart there refl refl refl refl idle empty (λ n _ ne. put_else r.seat w.number id n ne)
      record {
        seen = mine.seen;
        based = mine.based;
        numbered = λ z. absurd (omega arith);
        called = λ z. absurd (omega arith);
        has = λ z. absurd (omega arith);
        waits = mine.waits;
        in_its_turn = mine.in_its_turn;
        makes = mine.makes;
        accounts = let P : Account E → Type 0 = Remembers by r.turns seat' r.made id v.number in let g = account w.number w.seen w.calls in All-append P v.accounts (g ∷ [])
            (λ q d lt. let a = mine.accounts q d lt in let g = get_or v.accounts q d in record {
              seen = a.seen;
              called = λ z. let b = a.called z in
                  (put_else r.seat w.number id g.number (λ same. let nu = theirs.numbered (omega arith) in apart (sym nu.0 ∙ (ap r.seat (sym same) ∙ b.0))) ∙ b.0, b.1, b.2, b.3);
            })
            (All-cons P g [] record { seen = theirs.seen; called = λ z. (put_here r.seat w.number id, watching, (theirs.numbered z).1, (theirs.called z).0) } (All-nil P));
      }

  -- a pass that forgets those that it took in
  pub compares : (slots id : ℕ) (me : Mine V E B) → Allows (Kept by stands base key passes) slots id me 0 (λ n. n) (compared by (step slots 0 0 0 none) me)
  compares slots id me s k deep at fits = let r = k.course in let T : ℕ = r.tickets in let v = me.0 in let mine = k.each id v at in let ws = loaded by stands base key passes s k in let w : View E B = record v { accounts = [] } in (
    w,
    keeps,
    tt,
    subst (λ (x : List ℕ). Kept by stands base key passes record { words = x; homes = s.homes; views = set s.views id w }) (sym ws)
        (quiet by stands base key passes s k T r.holder s.homes id v w at (omega arith) (λ x lt. refl) refl refl refl
        (let none = All-nil (Remembers by r.turns r.seat r.made id v.number) in assumption)
        (place_stays by stands base key passes s r (length r.turns ∷ T ∷ []) id v w at refl (later by stands base key passes r T r.holder) refl refl refl k.place)),
    (refl, (r.turns, λ i d lt. (mine.accounts i d lt).seen), λ z. (mine.called z).1),
  )

  pub one_of_two : (m m1 m2 : Mine V E B) (w : View E B) (n slots : ℕ) → m1 ≡ (merged m.0 w, m.1) → compared by (step slots 0 0 0 none) m1 n m2 → StartsWith m.0.seen w.seen ⊎ StartsWith w.seen m.0.seen
  one_of_two m m1 m2 w n slots is told = let turns = told.1.0 in let gs = m.0.accounts in let all : All (λ (g : Account E). StartsWith turns g.seen) (gs ++ account 0 m.0.seen [] ∷ account 0 w.seen [] ∷ []) = subst (λ (y : Mine V E B). All (λ (g : Account E). StartsWith turns g.seen) y.0.accounts) is told.1.1 in
      let k = length gs in let d = account 0 m.0.seen [] in
      let a : StartsWith turns m.0.seen = subst (λ (g : Account E). StartsWith turns g.seen) (next_at gs d (account 0 w.seen [] ∷ []) d) (all k d (omega (arith, length-append gs (account 0 m.0.seen [] ∷ account 0 w.seen [] ∷ [])))) in
      let b : StartsWith turns w.seen = subst (λ (g : Account E). StartsWith turns g.seen) (last_at gs d (account 0 w.seen []) d) (all (suc k) d (omega (arith, length-append gs (account 0 m.0.seen [] ∷ account 0 w.seen [] ∷ [])))) in
      dite (dec_lt (length m.0.seen) (length w.seen)) (λ lt. inr (two_beginnings turns m.0.seen w.seen a b (omega arith))) (λ ge. inl (two_beginnings turns w.seen m.0.seen b a (omega arith)))
    where
      next_at : (xs : List (Account E)) (y : Account E) (ys : List (Account E)) (d : Account E) → get_or (xs ++ y ∷ ys) (length xs) d ≡ y
      next_at [] y ys d = refl
      next_at (x ∷ xs) y ys d = next_at xs y ys d

      last_at : (xs : List (Account E)) (y z d : Account E) → get_or (xs ++ y ∷ z ∷ []) (suc (length xs)) d ≡ z
      last_at [] y z d = refl
      last_at (x ∷ xs) y z d = last_at xs y z d
