-- Each step of a turn keeps the rule.
use Rattle.turn_history.proofs.Common.{All, All-append, All-cons, All-nil, Allows, Away, Bool, CanEnter, Found, Holding, Home, Kept, Knows, List, LockState, Mine, None, Option, Some, StartsWith, View, [], after_turn, ap, arith, calls_by, dite, drawn, ended, entered, entries_of, false, fronted, get_elem?, get_or, gives, homes_after, in_its_turn_at, inl, inr, keeps, length, length-append, length-set, looked, none, option_list, refl, rest, rules, set, some, step, subst, sym, takes, true, true≢false, with_held_by, with_ticket, ℕ, ℕ_discrete, ⊎_elim, ◌%◌, ◌++◌, ◌+◌, ◌-◌, ◌<◌, ◌^◌, ◌∙◌, ◌∷◌, ◌≡◌, ◌≢◌, ◌≤◌}
use mathlib.Core.Option as maybe
use Rattle.turn_history.proofs.Lists.{put, put_here, put_else, begins_itself, begins_longer, at_here, total_set, entries-append, entries_one, calls_snoc_own, calls_snoc_other, own_here, own_else}
use Rattle.turn_history.proofs.Keeping.{Signed, some_same, some_is_not, not_true, all_set, nobody_still, same_at, there_still, place_stays, later, quiet, loaded, still}

module _ {V E B : Type 0} (by : E → ℕ) (stands : V → List E → List Holding → Type 0) (base : V → B) (key : B) (passes : ℕ) where
  pub draws : (slots id : ℕ) (me : Mine V E B) → CanEnter me → Allows (Kept by stands base key passes) slots id me 1 (λ n. (n + 1) % 2 ^ 64) (drawn (step slots 1 1 0 none) me)
  draws slots id me can s k deep at fits = let n : ℕ = get_or s.words 1 0 in let r = k.course in let T : ℕ = r.tickets in let free = can.0 in let v = me.0 in let w : View E B = with_ticket v T in
      let found : n ≡ T = ap (λ (l : List ℕ). get_or l 1 0) k.words in let left = can.2 in
      let e = total_set (λ (u : View E B). u.turns_left) s.views id v (record v { turns_left = 0 }) at in let f = k.fuel in let o = k.order in
      let next : (n + 1) % 18446744073709551616 ≡ T + 1 = omega arith in
      let ws : set s.words 1 ((n + 1) % 18446744073709551616) ≡ length r.turns ∷ (T + 1) ∷ [] = ap (λ (l : List ℕ). set l 1 ((n + 1) % 18446744073709551616)) k.words ∙ ap (λ (x : ℕ). length r.turns ∷ x ∷ []) next in
      let h : ℕ → ℕ = put r.holder T id in let mine = k.each id v at in let r' : LockState E B = later by stands base key passes r (T + 1) h in (
        with_ticket v n,
        keeps,
        tt,
        subst (λ (x : List ℕ × ℕ). Kept by stands base key passes record { words = x.0; homes = s.homes; views = set s.views id (with_ticket v x.1) }) (λ i. (sym ws i, sym found i))
            (quiet by stands base key passes s k (T + 1) h s.homes id v w at (omega arith) (λ x lt. put_else r.holder T id x (λ z. omega arith)) refl (omega arith) refl
            (let waits : (t : ℕ) → Some T ≡ Some t → (length r.turns ≤ t) × (t < T + 1) × (h t ≡ id) × (0 < v.number) = λ t e. let same = some_same T t e in (omega arith, omega arith, subst (λ (x : ℕ). h x ≡ id) same (put_here r.holder T id), can.1) in
            let none : v.in_turn ≡ true → (Some T ≡ Some (length r.turns)) × (v.seen ≡ r.turns) × (v.holdings ≡ r.holdings) = λ e. absurd (true≢false (sym e ∙ free.1)) in assumption)
            (place_stays by stands base key passes s r (length r.turns ∷ (T + 1) ∷ []) id v w at refl r' refl refl refl k.place)),
        refl,
      )

  -- a pass that sees all turns
  sees_all : (r : LockState E B) (j : ℕ) (v : View E B) (now : Bool) (held : List Holding) → Knows by r j v → (now ≡ true → (v.ticket ≡ Some (length r.turns)) × (held ≡ r.holdings)) → Knows by r j (record v { seen = r.turns; in_turn = now; holdings = held })
  sees_all r j v now held k turn = search rules

  pub looks : (slots id : ℕ) (me : Mine V E B) (t : ℕ) → me.0.ticket ≡ Some t → me.0.in_turn ≡ false → Allows (Kept by stands base key passes) slots id me 0 (λ n. n) (looked by stands base (step slots 0 0 0 none) me)
  looks slots id me t drew out s k deep at fits = let n : ℕ = get_or s.words 0 0 in let r = k.course in let T : ℕ = r.tickets in let v = me.0 in let mine = k.each id v at in let ws = loaded by stands base key passes s k in
      let found : n ≡ length r.turns = ap (λ (l : List ℕ). get_or l 0 0) k.words in let ready = mine.waits t drew in
      dite (ℕ_discrete n t)
      (λ own. ⊎_elim
      (λ (h : Home by stands base r s). let w : View E B = in_its_turn_at v r.turns r.holdings in let room = k.sized in let nu = mine.numbered ready.3 in let within = nu.1 in let before = ready.1 in (
        w,
        takes 0 (Some h.value),
        ap (λ (l : List (maybe.Option (Option V))). get_elem? l 0) h.at_home,
        subst (λ (x : List ℕ × List (maybe.Option (Option V))). Kept by stands base key passes record { words = x.0; homes = x.1; views = set s.views id w }) (λ i. (sym ws i, set (sym h.at_home i) 0 none))
            (quiet by stands base key passes s k T r.holder (none ∷ []) id v w at (omega arith) (λ x lt. refl) refl refl refl
            (sees_all r id v true r.holdings mine (λ _. (drew ∙ ap (λ (x : ℕ). let y : Option ℕ = Some x in y) (sym own ∙ found), refl)))
            (inr record { away = refl; who = id; view = w; there = at_here s.views id v w at; turns_now = refl })),
        (
          (λ _. (
            h.value,
            r.turns,
            r.holdings,
            refl,
            refl,
            record {
              prefix = mine.seen;
              own_calls = λ z. (mine.called z).0;
              stood = h.stood;
              own_holding = mine.has ready.3;
              based = nu.3 ∙ ap (λ (b : B). let y : Option B = Some b in y) (sym h.same_base);
              few = let f = k.fuel in omega arith;
              inside = omega arith;
            },
          )),
          λ ne. absurd (ne (drew ∙ ap (λ (x : ℕ). let y : Option ℕ = Some x in y) (sym own))),
        ),
      ))
      (λ (h : Away by stands base s). let theirs = k.each h.who h.view h.there in let due = theirs.in_its_turn h.turns_now in let their = theirs.waits (length r.turns) due.0 in
      let same : h.who ≡ id = sym their.2 ∙ (ap r.holder (sym found ∙ own) ∙ ready.2) in absurd (true≢false (sym h.turns_now ∙ (ap (λ (y : View E B). y.in_turn) (same_at by stands base key passes s.views id h.who v h.view at h.there same) ∙ out))))
      k.place)
      (λ other. (
        v,
        keeps,
        tt,
        still by stands base key passes s k id v at,
        ((λ e. absurd (other (some_same n t (sym e ∙ drew)))), λ _. refl),
      ))

  signed_one : (made n : ℕ) (o : Option E) → 0 < n → n ≤ made → ((z : E) → o ≡ Some z → by z ≡ n) → All (Signed by stands base key passes made) (option_list o)
  signed_one made n None some_n within same = All-nil (Signed by stands base key passes made)
  signed_one made n (Some z) some_n within same = let is = same z refl in All-cons (Signed by stands base key passes made) z [] (omega arith, omega arith) (All-nil (Signed by stands base key passes made))

  signed_more : (made n : ℕ) (turns : List (Option E)) (e : Option E) → 0 < n → n ≤ made → ((z : E) → e ≡ Some z → by z ≡ n) → All (Signed by stands base key passes made) (entries_of turns) → All (Signed by stands base key passes made) (entries_of (turns ++ e ∷ []))
  signed_more made n turns e some_n within own all = subst (All (Signed by stands base key passes made)) (sym (entries-append turns (e ∷ []) ∙ ap (λ l. entries_of turns ++ l) (entries_one e))) (All-append (Signed by stands base key passes made) (entries_of turns) (option_list e) all (signed_one made n e some_n within own))

  pub ends : (slots id : ℕ) (me : Mine V E B) (x : V) (e : Option E) (own : Holding) → me.0.in_turn ≡ true → me.1 ≡ (0, Some x) ∷ [] → 0 < me.0.number → ((z : E) → e ≡ Some z → by z ≡ me.0.number)
      → stands x (entries_of me.0.seen ++ option_list e) (with_held_by me.0.holdings me.0.number own) → Some (base x) ≡ me.0.base → Allows (Kept by stands base key passes) slots id me 0 (λ n. (n + 1) % 2 ^ 64) (ended by e own (step slots 0 1 0 none) me)
  ends slots id me x e own now carries some_n signs stood based s k deep at fits = let n : ℕ = get_or s.words 0 0 in let r = k.course in let T : ℕ = r.tickets in let v = me.0 in let mine = k.each id v at in
      let L : ℕ = length r.turns in let found : n ≡ L = ap (λ (l : List ℕ). get_or l 0 0) k.words in let due = mine.in_its_turn now in let ready = mine.waits L due.0 in let before = ready.1 in
      let f = k.fuel in let w : View E B = after_turn v e own in let m : ℕ = v.number in let nu = mine.numbered some_n in let size = k.sized in let within = nu.1 in
      let inside : m ≤ length r.holdings = omega arith in
      let turns' : List (Option E) = r.turns ++ e ∷ [] in let all' : List Holding = with_held_by r.holdings m own in let r' : LockState E B = record r { turns = turns'; holdings = all' } in
      let longer : length turns' ≡ L + 1 = length-append r.turns (e ∷ []) in
      let next : (n + 1) % 18446744073709551616 ≡ length turns' = omega arith in
      let ws : set s.words 0 ((n + 1) % 18446744073709551616) ≡ length turns' ∷ T ∷ [] = ap (λ (l : List ℕ). set l 0 ((n + 1) % 18446744073709551616)) k.words ∙ ap (λ (y : ℕ). y ∷ T ∷ []) next in
      let new_calls : calls_by by m (entries_of turns') ≡ v.calls ++ option_list e = calls_snoc_own by m r.turns e signs ∙ ap (λ l. l ++ option_list e) (mine.called some_n).0 in
      ⊎_elim
      (λ (h : Home by stands base r s). absurd (true≢false (sym now ∙ h.nobody id v at)))
      (λ (h : Away by stands base s). (
        w,
        gives,
        tt,
        subst (λ (y : List ℕ × List (maybe.Option (Option V))). Kept by stands base key passes record { words = y.0; homes = y.1; views = set s.views id w }) (λ i. (sym ws i, put_home (s.homes) (me.1) x h.away carries i))
            record {
              course = r';
              words = refl;
              order = omega arith;
              fuel = let t = total_set (λ (u : View E B). u.turns_left) s.views id v w at in omega arith;
              weighs = let t = total_set (λ (u : View E B). u.weight) s.views id v w at in let g = k.weighs in omega arith;
              sized = (length-set r.holdings (m - 1) own ∙ size.0, size.1);
              based = k.based;
              signed = signed_more r.made m r.turns e some_n nu.1 signs k.signed;
              owned = λ i some_i. dite (ℕ_discrete i m)
                  (λ same. inr (w, subst (λ (j : ℕ). get_elem? (set s.views id w) j ≡ some w) (sym nu.0 ∙ ap r.seat (sym same)) (at_here s.views id v w at), sym same))
                  (λ other. ⊎_elim (λ none_out. inl (own_else r.holdings m i own some_n some_i other ∙ none_out))
                  (λ (z : (u : View E B) × (get_elem? s.views (r.seat i) ≡ some u) × (u.number ≡ i)). inr (there_still by stands base key passes (λ (u : View E B). u.number ≡ i) s.views id (r.seat i) v w z.0 at (λ y. y) z.1 z.2)) (k.owned i some_i));
              each = all_set by stands base key passes r' s.views id w
                  record {
                    seen = subst (λ (l : List (Option E)). StartsWith (r.turns ++ e ∷ []) (l ++ e ∷ [])) (sym due.1) (begins_itself (r.turns ++ e ∷ []));
                    based = mine.based;
                    numbered = mine.numbered;
                    called = λ _. (new_calls, subst (λ (l : List (Option E)). calls_by by m (entries_of (l ++ e ∷ [])) ≡ v.calls ++ option_list e) (sym due.1) new_calls);
                    has = λ _. own_here r.holdings m own some_n inside;
                    waits = λ t z. absurd (some_is_not t z);
                    in_its_turn = λ z. absurd (true≢false (sym z));
                    makes = mine.makes;
                    accounts = λ i d lt. let a = mine.accounts i d lt in record { seen = begins_longer r.turns (get_or v.accounts i d).seen (e ∷ []) a.seen; called = λ z. let b = (a.called z).1 in absurd (omega arith) };
                  }
                  (λ j u other at'. let theirs = k.each j u at' in record {
                    seen = begins_longer r.turns u.seen (e ∷ []) theirs.seen;
                    based = theirs.based;
                    numbered = theirs.numbered;
                    called = λ z. (calls_snoc_other by u.number r.turns e (λ y is same. other (sym (theirs.numbered z).0 ∙ (ap r.seat (sym same ∙ signs y is) ∙ nu.0))) ∙ (theirs.called z).0, (theirs.called z).1);
                    has = λ z. own_else r.holdings m u.number own some_n z (λ same. other (sym (theirs.numbered z).0 ∙ (ap r.seat same ∙ nu.0))) ∙ theirs.has z;
                    waits = λ t z. let a = theirs.waits t z in let le = a.0 in let apart : t ≢ L = λ same. other (sym a.2 ∙ (ap r.holder same ∙ ready.2)) in (omega arith, a.1, a.2, a.3);
                    in_its_turn = λ z. absurd (other (sym (theirs.waits L (theirs.in_its_turn z).0).2 ∙ ready.2));
                    makes = theirs.makes;
                    accounts = λ i d lt. let a = theirs.accounts i d lt in let g = get_or u.accounts i d in record {
                      seen = begins_longer r.turns g.seen (e ∷ []) a.seen;
                      called = λ z. let b = a.called z in (b.0, b.1, b.2, calls_snoc_other by g.number r.turns e (λ y is same. other (sym b.0 ∙ (ap r.seat (sym same ∙ signs y is) ∙ nu.0))) ∙ b.3);
                    };
                  });
              place = inl record {
                value = x;
                at_home = refl;
                stood = subst (λ (l : List E). stands x l all') (sym (entries-append r.turns (e ∷ []) ∙ ap (λ l. entries_of r.turns ++ l) (entries_one e)))
                    (subst (λ (y : List (Option E) × List Holding). stands x (entries_of y.0 ++ option_list e) (with_held_by y.1 m own)) (λ i. (due.1 i, due.2 i)) stood);
                same_base = mine.based (base x) (sym based);
                nobody = nobody_still by stands base key passes s.views id w refl (λ j u other at'. not_true u.in_turn (λ z. let theirs = k.each j u at' in other (sym (theirs.waits L (theirs.in_its_turn z).0).2 ∙ ready.2)));
              };
            },
        (ap (λ (c : List (ℕ × Option V)). let y : Mine V E B = (w, rest c) in y) carries, λ _. subst (λ (l : List (Option E)). calls_by by m (entries_of (l ++ e ∷ [])) ≡ v.calls ++ option_list e) (sym due.1) new_calls),
      )) k.place
    where
      put_home : (homes : List (maybe.Option (Option V))) (c : List (ℕ × Option V)) (y : V) → homes ≡ none ∷ [] → c ≡ (0, Some y) ∷ [] → some (Some y) ∷ [] ≡ homes_after homes c gives
      put_home homes c y a b = sym (ap (λ (z : List (maybe.Option (Option V)) × List (ℕ × Option V)). homes_after z.0 z.1 gives) (λ i. (a i, b i)))

  pub fronts : (slots id : ℕ) (me : Mine V E B) → Allows (Kept by stands base key passes) slots id me 0 (λ n. n) (fronted by (step slots 0 0 0 none) me)
  fronts slots id me s k deep at fits = let n : ℕ = get_or s.words 0 0 in let r = k.course in let T : ℕ = r.tickets in let v = me.0 in let mine = k.each id v at in let ws = loaded by stands base key passes s k in let w : View E B = record v { seen = r.turns } in
      let found : n ≡ length r.turns = ap (λ (l : List ℕ). get_or l 0 0) k.words in (
        w,
        keeps,
        tt,
        subst (λ (x : List ℕ). Kept by stands base key passes record { words = x; homes = s.homes; views = set s.views id w }) (sym ws)
            (quiet by stands base key passes s k T r.holder s.homes id v w at (omega arith) (λ x lt. refl) refl refl refl
            (sees_all r id v v.in_turn v.holdings mine (λ z. let a = mine.in_its_turn z in (a.0, a.2)))
            (place_stays by stands base key passes s r (length r.turns ∷ T ∷ []) id v w at refl (later by stands base key passes r T r.holder) refl refl refl k.place)),
        (refl, sym found, mine.seen, λ z. (mine.called z).0),
      )

  pub ends_at : (slots id : ℕ) (me was : Mine V E B) (x : V) (e : Option E) (own : Holding) → me ≡ (was.0, (0, Some x) ∷ rest was.1) → was.1 ≡ (0, None) ∷ [] → was.0.in_turn ≡ true → 0 < was.0.number → ((z : E) → e ≡ Some z → by z ≡ was.0.number)
      → stands x (entries_of was.0.seen ++ option_list e) (with_held_by was.0.holdings was.0.number own) → Some (base x) ≡ was.0.base → Allows (Kept by stands base key passes) slots id me 0 (λ n. (n + 1) % 2 ^ 64) (ended by e own (step slots 0 1 0 none) me)
  ends_at slots id me was x e own is carries now some_n signs stood based = let is' : me ≡ (was.0, (0, Some x) ∷ []) = is ∙ ap (λ (c : List (ℕ × Option V)). let y : Mine V E B = (was.0, (0, Some x) ∷ rest c) in y) carries in
      subst (λ (m : Mine V E B). Allows (Kept by stands base key passes) slots id m 0 (λ n. (n + 1) % 2 ^ 64) (ended by e own (step slots 0 1 0 none) m)) (sym is') (ends slots id (was.0, (0, Some x) ∷ []) x e own now refl some_n signs stood based)

  pub carried_rest : (c d : List (ℕ × Option V)) (y : ℕ × Option V) → c ≡ y ∷ d → c ≡ y ∷ rest c
  carried_rest c d y is = is ∙ ap (λ (l : List (ℕ × Option V)). y ∷ l) (sym (ap rest is))

  pub finds_value : (slots n t : ℕ) (m m' : Mine V E B) → looked by stands base (step slots 0 0 0 none) m n m' → m.0.ticket ≡ Some t → n ≡ t → (x : V) × (m'.1 ≡ (0, Some x) ∷ rest m'.1)
  finds_value slots n t m m' told drew is = let a = told.0 (drew ∙ ap (λ (y : ℕ). let z : Option ℕ = Some y in z) (sym is)) in (a.0, carried_rest m'.1 m.1 (0, Some a.0) a.4)

  pub record Entered (m : Mine V E B) (t : ℕ) (result : Option V) (m' : Mine V E B) : Type 0 where
    pub value : V
    pub is : result ≡ Some value
    pub now : m' ≡ (entered m.0 m'.0, (0, None) ∷ [])
    pub found : Found by stands base m.0 value m'.0

  pub enters : (slots n t : ℕ) (m m1 m2 m3 m4 : Mine V E B) (result : Option V) → m.1 ≡ [] → m1 ≡ (with_ticket m.0 t, m.1) → m2 ≡ m1 → looked by stands base (step slots 0 0 0 none) m2 n m3 → n ≡ t → m3.1 ≡ (0, result) ∷ rest m3.1 → m4 ≡ (m3.0, (0, None) ∷ rest m3.1) → Entered m t result m4
  enters slots n t m m1 m2 m3 m4 result bare drew same told is took gave = search rules
