-- A split keeps the rule.
use Rattle.turn_history.proofs.Common.{All-nil, Holding, Kept, Knows, List, LockState, Option, Remembers, Some, Splits, StartsWith, State, TURNS, View, [], after_making, ap, arith, at_longer, calls_by, dite, entries_of, false, get_elem?, get_or, held_by, inl, inr, length, length-set, made_pass, refl, set, some, subst, sym, true, true≢false, watcher, ℕ, ℕ_discrete, ⊎_elim, ◌++◌, ◌+◌, ◌<◌, ◌∙◌, ◌∷◌, ◌≡◌, ◌≢◌, ◌≤◌, ◌⊎◌}
use Rattle.turn_history.proofs.{Lists.put, Lists.put_here, Lists.put_else, Lists.at_snoc_end, Lists.between, Lists.no_calls, Lists.total_set, Lists.total_snoc, Keeping.knows_seated, Keeping.some_is_not, Keeping.all_set, Keeping.nobody_still, Keeping.there_still, Keeping.no_pass, Keeping.place_kept}

module _ {V E B : Type 0} (by : E → ℕ) (stands : V → List E → List Holding → Type 0) (base : V → B) (key : B) (passes : ℕ) where
  -- a further seat, which knows as much as r' says
  splits_kept : (s : State (Option V) (View E B)) (k : Kept by stands base key passes s) (id : ℕ) (v l n : View E B) (made' : ℕ) (seat' : ℕ → ℕ) → get_elem? s.views id ≡ some v → l.number ≡ v.number → l.in_turn ≡ v.in_turn → n.in_turn ≡ false
      → l.turns_left + n.turns_left ≤ v.turns_left → l.weight + n.weight ≡ v.weight → k.course.made ≤ made' → made' ≤ passes → ((m : ℕ) → m ≤ k.course.made → seat' m ≡ k.course.seat m)
      → ((m : ℕ) → k.course.made < m → seat' m ≡ k.course.seat m ⊎ ((n.number ≡ m) × (seat' m ≡ length s.views)))
      → ((j : ℕ) (u : View E B) → j ≢ id → get_elem? s.views j ≡ some u → 0 < u.next_number → made' ≡ k.course.made)
      → Knows by (record k.course { made = made'; seat = seat' }) id l → Knows by (record k.course { made = made'; seat = seat' }) (length s.views) n
      → Kept by stands base key passes record { words = s.words; homes = s.homes; views = set s.views id l ++ n ∷ [] }
  splits_kept s k id v l n made' seat' at number turn idle left weight more few seats fresh makers mine new = let r = k.course in let r' : LockState E B = record r { made = made'; seat = seat' } in let vs : List (View E B) = set s.views id l in record {
    course = r';
    words = k.words;
    order = k.order;
    fuel = let a = total_set (λ (u : View E B). u.turns_left) s.views id v l at in let b = total_snoc (λ (u : View E B). u.turns_left) vs n in let f = k.fuel in omega arith;
    weighs = let a = total_set (λ (u : View E B). u.weight) s.views id v l at in let b = total_snoc (λ (u : View E B). u.weight) vs n in let f = k.weighs in omega arith;
    sized = (k.sized.0, few);
    based = k.based;
    signed = λ i d lt. let a = k.signed i d lt in let le = a.1 in (a.0, omega arith);
    owned = λ m some_m. ⊎_elim (λ e. inl e)
        (λ (x : (u : View E B) × (get_elem? s.views (r.seat m) ≡ some u) × (u.number ≡ m)). let z = there_still by stands base key passes (λ (u : View E B). u.number ≡ m) s.views id (r.seat m) v l x.0 at (λ e. number ∙ e) x.1 x.2 in
        let u = k.each (r.seat m) x.0 x.1 in let is = x.2 in let nu = u.numbered (omega arith) in let low = nu.1 in
        inr (z.0, at_longer vs (n ∷ []) (seat' m) z.0 (ap (get_elem? vs) (seats m (omega arith)) ∙ z.1), z.2)) (k.owned m some_m);
    each = λ j u e. ⊎_elim (λ old. all_set by stands base key passes r' s.views id l mine (λ i x other there. knows_seated by stands base key passes r made' seat' i x more (λ n _ le _. seats n le) (makers i x other there) (k.each i x there)) j u old)
        (λ (x : (n ≡ u) × (j ≡ length vs)). subst (λ (y : ℕ × View E B). Knows by r' y.0 y.1) (λ i. (sym (x.1 ∙ length-set s.views id l) i, x.0 i)) new) (at_snoc_end vs n u j e);
    place = place_kept by stands base key passes s r r' s.words (vs ++ n ∷ []) refl refl refl
        (λ nobody j u e. ⊎_elim (λ old. nobody_still by stands base key passes s.views id l (turn ∙ nobody id v at) (λ i x _ there. nobody i x there) j u old) (λ (x : (n ≡ u) × (j ≡ length vs)). ap (λ (y : View E B). y.in_turn) (sym x.0) ∙ idle) (at_snoc_end vs n u j e))
        (λ j u there now. let z = there_still by stands base key passes (λ (y : View E B). y.in_turn ≡ true) s.views id j v l u at (λ e. turn ∙ e) there now in (z.0, at_longer vs (n ∷ []) j z.0 z.1, z.2)) k.place;
  }

  pub watches : (id : ℕ) (v : View E B) → Splits (Kept by stands base key passes) id v v (watcher v)
  watches id v s k at = let mine = k.each id v at in let size = k.sized in splits_kept s k id v v (watcher v) k.course.made k.course.seat at refl refl refl (omega arith) (omega arith) (omega arith) size.1 (λ m le. refl) (λ m lt. inl refl) (λ j u _ _ _. refl)
      mine (no_pass by stands base key passes k.course (length s.views) (watcher v) mine.seen mine.based refl refl refl (λ z. absurd (omega arith)) refl)

  pub makes_one : (id : ℕ) (v : View E B) (b : B) → v.base ≡ Some b → v.number ≡ 0 → 0 < v.next_number → v.next_number ≤ passes → 0 < v.weight → TURNS ≤ v.turns_left → v.in_turn ≡ false → Splits (Kept by stands base key passes) id v (after_making v) (made_pass v)
  makes_one id v b is_based nobody some_next few weight left out s k at = let mine = k.each id v at in let size = k.sized in let r = k.course in let mk = mine.makes some_next in let next = mk.0 in let seat' : ℕ → ℕ = put r.seat v.next_number (length s.views) in
      let base_is : v.base ≡ Some r.base = is_based ∙ ap (λ (x : B). let y : Option B = Some x in y) (mine.based b is_based) in
      let keep : (m : ℕ) → m ≤ r.made → seat' m ≡ r.seat m = λ m le. put_else r.seat v.next_number (length s.views) m (λ e. omega arith) in
      let r' : LockState E B = record r { made = r.made + 1; seat = seat' } in
      let unused : held_by r.holdings v.next_number ≡ [] = ⊎_elim (λ e. e) (λ (x : (u : View E B) × (get_elem? s.views (r.seat v.next_number) ≡ some u) × (u.number ≡ v.next_number)). let is = x.2 in let a = (k.each (r.seat v.next_number) x.0 x.1).numbered (omega arith) in let le = a.1 in absurd (omega arith)) (k.owned v.next_number some_next) in
      let silent : calls_by by v.next_number (entries_of r.turns) ≡ [] = no_calls by v.next_number r.made (entries_of r.turns) (omega arith) k.signed in
      splits_kept s k id v (after_making v) (made_pass v) (r.made + 1) seat' at refl refl refl (omega arith) (omega arith) (omega arith) (omega arith) keep
      (λ m lt. dite (ℕ_discrete m v.next_number) (λ e. inr (sym e, subst (λ (x : ℕ). seat' x ≡ length s.views) (sym e) (put_here r.seat v.next_number (length s.views)))) (λ ne. inl (put_else r.seat v.next_number (length s.views) m ne)))
      (λ j u other there z. absurd (other (sym ((k.each j u there).makes z).1 ∙ mk.1)))
      record {
        seen = mine.seen;
        based = mine.based;
        numbered = λ z. absurd (omega arith);
        called = mine.called;
        has = mine.has;
        waits = mine.waits;
        in_its_turn = mine.in_its_turn;
        makes = λ z. (omega arith, mk.1);
        accounts = λ q d lt. let a = mine.accounts q d lt in record { seen = a.seen; called = λ z. let b = a.called z in let le = b.2 in (keep (get_or v.accounts q d).number (omega arith) ∙ b.0, b.1, omega arith, b.3) };
      }
      record {
        seen = mine.seen;
        based = mine.based;
        numbered = λ z. (put_here r.seat v.next_number (length s.views), omega arith, omega arith, base_is);
        called = λ z. (silent, between_none r.turns v.seen v.next_number mine.seen silent);
        has = λ z. unused;
        waits = λ t z. absurd (some_is_not t z);
        in_its_turn = λ z. absurd (true≢false (sym z));
        makes = λ z. absurd (omega arith);
        accounts = All-nil (Remembers by r.turns seat' r'.made (length s.views) v.next_number);
      }
    where
      between_none : (whole part : List (Option E)) (n : ℕ) → StartsWith whole part → calls_by by n (entries_of whole) ≡ [] → calls_by by n (entries_of part) ≡ []
      between_none whole part n st none_at = between by n whole [] part st (part, refl) (sym none_at)
