-- What a step leaves of the rule.
use Rattle.turn_history.proofs.Common.{All, Away, Bool, Holding, Home, Kept, Knows, List, LockState, None, Option, Owned, Remembers, Some, StartsWith, State, View, [], ap, arith, at_set, dite, false, get_elem?, get_or, inl, inr, length, refl, rules, set, set-get_or, set_again, set_else, some, some-injective, spent, subst, sym, true, ℕ, ℕ_discrete, ⊎_elim, ◌+◌, ◌<◌, ◌∙◌, ◌∷◌, ◌≡◌, ◌≢◌, ◌≤◌, ◌⊎◌}
use mathlib.Core.Option as maybe
use Rattle.turn_history.proofs.Lists.{at_here, total_set}

pub some_same : {A : Type 0} (a b : A) → Some a ≡ Some b → a ≡ b
some_same a b e = cc

pub some_is_not : {A : Type 0} (a : A) → None ≡ Some a → ⊥
some_is_not a e = cc

pub not_true : (b : Bool) → (b ≡ true → ⊥) → b ≡ false
not_true true not = absurd (not refl)
not_true false not = refl

abbrev pub first_carried : {V : Type 0} → List (ℕ × Option V) → Option V
first_carried [] = None
first_carried (x ∷ xs) = x.1

module _ {V E B : Type 0} (by : E → ℕ) (stands : V → List E → List Holding → Type 0) (base : V → B) (key : B) (passes : ℕ) where
  pub all_set : (r : LockState E B) (views : List (View E B)) (me : ℕ) (w : View E B) → Knows by r me w → ((j : ℕ) (u : View E B) → j ≢ me → get_elem? views j ≡ some u → Knows by r j u) → (j : ℕ) (u : View E B) → get_elem? (set views me w) j ≡ some u → Knows by r j u
  all_set r views me w mine others j u e = ⊎_elim (λ (x : (j ≡ me) × (w ≡ u)). subst (λ (y : ℕ × View E B). Knows by r y.0 y.1) (λ i. (sym x.0 i, x.1 i)) mine)
      (λ (x : (j ≢ me) × (get_elem? views j ≡ some u)). others j u x.0 x.1) (at_set views me j w u e)

  pub nobody_still : (views : List (View E B)) (me : ℕ) (w : View E B) → w.in_turn ≡ false → ((j : ℕ) (v : View E B) → j ≢ me → get_elem? views j ≡ some v → v.in_turn ≡ false) → (j : ℕ) (v : View E B) → get_elem? (set views me w) j ≡ some v → v.in_turn ≡ false
  nobody_still views me w mine others j u e = ⊎_elim (λ (x : (j ≡ me) × (w ≡ u)). ap (λ (y : View E B). y.in_turn) (sym x.1) ∙ mine) (λ (x : (j ≢ me) × (get_elem? views j ≡ some u)). others j u x.0 x.1) (at_set views me j w u e)

  pub same_at : (views : List (View E B)) (i j : ℕ) (v u : View E B) → get_elem? views i ≡ some v → get_elem? views j ≡ some u → j ≡ i → u ≡ v
  same_at views i j v u a b e = some-injective u v (sym b ∙ (ap (get_elem? views) e ∙ a))

  -- what holds of some view holds of some view after a change that keeps it
  pub there_still : (P : View E B → Type 0) (views : List (View E B)) (me who : ℕ) (v w u : View E B) → get_elem? views me ≡ some v → (P v → P w) → get_elem? views who ≡ some u → P u → (z : View E B) × (get_elem? (set views me w) who ≡ some z) × P z
  there_still P views me who v w u at same there on = dite (ℕ_discrete who me)
      (λ e. (w, subst (λ (i : ℕ). get_elem? (set views me w) i ≡ some w) (sym e) (at_here views me v w at), same (subst P (same_at views me who v u at there e) on)))
      (λ ne. (u, set_else views me who w ne ∙ there, on))

  pub owned_still : (r : LockState E B) (views : List (View E B)) (me : ℕ) (v w : View E B) → get_elem? views me ≡ some v → w.number ≡ v.number → (n : ℕ) → Owned by stands base r views n → Owned by stands base r (set views me w) n
  owned_still r views me v w at same n has = ⊎_elim (λ e. inl e) (λ (x : (u : View E B) × (get_elem? views (r.seat n) ≡ some u) × (u.number ≡ n)). inr (there_still (λ (u : View E B). u.number ≡ n) views me (r.seat n) v w x.0 at (λ e. same ∙ e) x.1 x.2)) has

  -- the value stays where it is, where a view is in its turn after a step only if one was, and one still is
  pub place_kept : (s : State (Option V) (View E B)) (r r' : LockState E B) (words : List ℕ) (views : List (View E B)) → r'.turns ≡ r.turns → r'.holdings ≡ r.holdings → r'.base ≡ r.base
      → (((j : ℕ) (u : View E B) → get_elem? s.views j ≡ some u → u.in_turn ≡ false) → (j : ℕ) (u : View E B) → get_elem? views j ≡ some u → u.in_turn ≡ false)
      → ((j : ℕ) (u : View E B) → get_elem? s.views j ≡ some u → u.in_turn ≡ true → (z : View E B) × (get_elem? views j ≡ some z) × (z.in_turn ≡ true)) → Home by stands base r s ⊎ Away by stands base s
      → Home by stands base r' record { words = words; homes = s.homes; views = views } ⊎ Away by stands base record { words = words; homes = s.homes; views = views }
  place_kept s r r' words views t a b quiet busy place = search rules

  -- so it does where the pass keeps whether it is in its turn
  pub place_stays : (s : State (Option V) (View E B)) (r : LockState E B) (words : List ℕ) (me : ℕ) (v w : View E B) → get_elem? s.views me ≡ some v → w.in_turn ≡ v.in_turn
      → (r' : LockState E B) → r'.turns ≡ r.turns → r'.holdings ≡ r.holdings → r'.base ≡ r.base → Home by stands base r s ⊎ Away by stands base s
      → Home by stands base r' record { words = words; homes = s.homes; views = set s.views me w } ⊎ Away by stands base record { words = words; homes = s.homes; views = set s.views me w }
  place_stays s r words me v w at same r' t a b = place_kept s r r' words (set s.views me w) t a b (λ nobody. nobody_still s.views me w (same ∙ nobody me v at) (λ j u _ e. nobody j u e))
      (λ j u. there_still (λ (u : View E B). u.in_turn ≡ true) s.views me j v w u at (λ e. same ∙ e))

  abbrev pub Signed : ℕ → E → Type 0
  Signed made e = (0 < by e) × (by e ≤ made)

  abbrev pub later : LockState E B → ℕ → (ℕ → ℕ) → LockState E B
  later r t h = record r { tickets = t; holder = h }

  pub others_quiet : (r : LockState E B) (t : ℕ) (h : ℕ → ℕ) (j : ℕ) (u : View E B) → r.tickets ≤ t → ((x : ℕ) → x < r.tickets → h x ≡ r.holder x) → Knows by r j u → Knows by (later r t h) j u
  others_quiet r t h j u more same k =
      let waits : (x : ℕ) → u.ticket ≡ Some x → (length r.turns ≤ x) × (x < t) × (h x ≡ j) × (0 < u.number) = λ x e. let a = k.waits x e in let lt = a.1 in (a.0, omega arith, same x lt ∙ a.2, a.3) in assumption

  -- what a view knows stays so where further passes are made, and its own stay on their seats
  pub knows_seated : (r : LockState E B) (made' : ℕ) (seat' : ℕ → ℕ) (j : ℕ) (u : View E B) → r.made ≤ made' → ((n : ℕ) → 0 < n → n ≤ r.made → r.seat n ≡ j → seat' n ≡ r.seat n) → (0 < u.next_number → made' ≡ r.made) → Knows by r j u → Knows by (record r { made = made'; seat = seat' }) j u
  knows_seated r made' seat' j u more seats makers k =
      let numbered : 0 < u.number → (seat' u.number ≡ j) × (u.number ≤ made') × (0 < u.weight) × (u.base ≡ Some r.base) = λ z. let a = k.numbered z in let le = a.1 in (seats u.number z le a.0 ∙ a.0, omega arith, a.2, a.3) in
      let makes : 0 < u.next_number → (u.next_number ≡ made' + 1) × (r.maker ≡ j) = λ z. let a = k.makes z in (a.0 ∙ ap (λ (y : ℕ). y + 1) (sym (makers z)), a.1) in
      let accounts : All (Remembers by r.turns seat' made' j u.number) u.accounts = λ q d lt. let a = k.accounts q d lt in
      record { seen = a.seen; called = λ z. let b = a.called z in let le = b.2 in (seats (get_or u.accounts q d).number z le b.0 ∙ b.0, b.1, omega arith, b.3) } in assumption

  -- what is on a seat that is no pass's
  pub no_pass : (r : LockState E B) (j : ℕ) (w : View E B) → StartsWith r.turns w.seen → ((b : B) → w.base ≡ Some b → b ≡ r.base) → w.number ≡ 0 → w.ticket ≡ None → w.in_turn ≡ false
      → (0 < w.next_number → (w.next_number ≡ r.made + 1) × (r.maker ≡ j)) → w.accounts ≡ [] → Knows by r j w
  no_pass r j w seen based nobody none out makes bare = search rules

  pub knows_nothing : (r : LockState E B) (j : ℕ) → Knows by r j spent
  knows_nothing r j = no_pass r j spent (r.turns, refl) (λ b e. absurd (some_is_not b e)) refl refl refl (λ z. absurd (omega arith)) refl

  -- a step that ends no turn
  pub quiet : (s : State (Option V) (View E B)) (k : Kept by stands base key passes s) (t : ℕ) (h : ℕ → ℕ) (homes' : List (maybe.Option (Option V))) (me : ℕ) (v w : View E B) → get_elem? s.views me ≡ some v
      → k.course.tickets ≤ t → ((x : ℕ) → x < k.course.tickets → h x ≡ k.course.holder x) → w.number ≡ v.number → w.turns_left + t ≡ v.turns_left + k.course.tickets → w.weight ≡ v.weight
      → Knows by (later k.course t h) me w
      → Home by stands base (later k.course t h) record { words = length k.course.turns ∷ t ∷ []; homes = homes'; views = set s.views me w } ⊎ Away by stands base record { words = length k.course.turns ∷ t ∷ []; homes = homes'; views = set s.views me w }
      → Kept by stands base key passes record { words = length k.course.turns ∷ t ∷ []; homes = homes'; views = set s.views me w }
  quiet s k t h homes' me v w at more same number left weight mine place = let r = k.course in record {
    course = later r t h;
    words = refl;
    order = let o = k.order in omega arith;
    fuel = let e = total_set (λ (u : View E B). u.turns_left) s.views me v w at in let f = k.fuel in omega arith;
    weighs = let e = total_set (λ (u : View E B). u.weight) s.views me v w at in let f = k.weighs in omega arith;
    sized = k.sized;
    based = k.based;
    signed = k.signed;
    owned = λ n some_n. owned_still r s.views me v w at number n (k.owned n some_n);
    each = all_set (later r t h) s.views me w mine (λ j u _ e. others_quiet r t h j u more same (k.each j u e));
    place = place;
  }

  -- a load changes no word
  pub loaded : (s : State (Option V) (View E B)) (k : Kept by stands base key passes s) → set s.words 0 (get_or s.words 0 0) ≡ length k.course.turns ∷ k.course.tickets ∷ []
  loaded s k = set-get_or s.words 0 0 ∙ k.words

  pub still : (s : State (Option V) (View E B)) (k : Kept by stands base key passes s) (id : ℕ) (v : View E B) → get_elem? s.views id ≡ some v → Kept by stands base key passes record { words = set s.words 0 (get_or s.words 0 0); homes = s.homes; views = set s.views id v }
  still s k id v at = subst (λ (x : List ℕ × List (View E B)). Kept by stands base key passes record { words = x.0; homes = s.homes; views = x.1 }) (λ i. (sym (set-get_or s.words 0 0) i, sym (set_again s.views id v at) i)) k
