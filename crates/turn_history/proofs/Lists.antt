-- Lists: beginnings, entries, calls and totals.

use Rattle.turn_history.proofs.Common.{All, Holding, List, None, Option, Some, StartsWith, [], ap, append-nil, append_assoc, arith, calls_by, choose, cond, dec_lt, dite, entries_of, eq-eqb, eqb, false, get_elem?, get_or, get_or-set_other, get_or-set_same, held_by, inl, inr, le-ltb, length, length-append, longer, lt-ltb, ne_eqb, option_list, refl, set, some, some-injective, some-ne-none, subst, suc, sym, total, true, with_held_by, zero, ℕ, ⊎_elim, ◌++◌, ◌+◌, ◌-◌, ◌<◌, ◌∙◌, ◌∷◌, ◌≡◌, ◌≢◌, ◌≤◌, ◌⊎◌}
use Rattle.std.proofs.lemmas.List.{nil_from_length}

pub put : (ℕ → ℕ) → ℕ → ℕ → ℕ → ℕ
put f i c j = cond (eqb j i) c (f j)

pub put_here : (f : ℕ → ℕ) (i c : ℕ) → put f i c i ≡ c
unfolding put
put_here f i c = ap (λ b. cond b c (f i)) (eq-eqb i i refl)

pub put_else : (f : ℕ → ℕ) (i c j : ℕ) → j ≢ i → put f i c j ≡ f j
unfolding put
put_else f i c j other = ap (λ b. cond b c (f j)) (ne_eqb j i other)

module _ {A : Type 0} where
  pub begins_itself : (xs : List A) → StartsWith xs xs
  begins_itself xs = ([], sym (append-nil xs))

  pub begins_longer : (whole part more : List A) → StartsWith whole part → StartsWith (whole ++ more) part
  begins_longer whole part more s = (s.0 ++ more, ap (λ l. l ++ more) s.1 ∙ append_assoc part s.0 more)

  pub at_here : (xs : List A) (i : ℕ) (a b : A) → get_elem? xs i ≡ some a → get_elem? (set xs i b) i ≡ some b
  at_here [] i a b e = absurd (some-ne-none a (sym e))
  at_here (x ∷ xs) zero a b e = refl
  at_here (x ∷ xs) (suc i) a b e = at_here xs i a b e

  pub at_snoc_end : (xs : List A) (a b : A) (j : ℕ) → get_elem? (xs ++ a ∷ []) j ≡ some b → (get_elem? xs j ≡ some b) ⊎ ((a ≡ b) × (j ≡ length xs))
  at_snoc_end [] a b zero e = inr (some-injective a b e, refl)
  at_snoc_end [] a b (suc j) e = absurd (some-ne-none b (sym e))
  at_snoc_end (x ∷ xs) a b zero e = inl e
  at_snoc_end (x ∷ xs) a b (suc j) e = ⊎_elim (λ h. inl h) (λ (h : (a ≡ b) × (j ≡ length xs)). inr (h.0, ap suc h.1)) (at_snoc_end xs a b j e)

  -- two beginnings of one list: the shorter begins the longer
  pub two_beginnings : (whole a b : List A) → StartsWith whole a → StartsWith whole b → length a ≤ length b → StartsWith b a
  two_beginnings whole [] b s t le = (b, refl)
  two_beginnings whole (x ∷ xs) [] s t le = absurd (omega arith)
  two_beginnings whole (x ∷ xs) (y ∷ ys) s t le = let same : x ∷ (xs ++ s.0) ≡ y ∷ (ys ++ t.0) = sym s.1 ∙ t.1 in let heads : x ≡ y = cc in let tails : xs ++ s.0 ≡ ys ++ t.0 = cc in
      let r = two_beginnings (xs ++ s.0) xs ys (s.0, refl) (t.0, tails) (omega arith) in (r.0, λ i. sym heads i ∷ r.1 i)

  pub total_here : (f : A → ℕ) (xs : List A) (i : ℕ) (a : A) → get_elem? xs i ≡ some a → f a ≤ total f xs
  total_here f [] i a e = absurd (some-ne-none a (sym e))
  total_here f (x ∷ xs) zero a e = let is : f x ≡ f a = ap f (some-injective x a e) in omega arith
  total_here f (x ∷ xs) (suc i) a e = let r = total_here f xs i a e in omega arith

  pub total_two : (f : A → ℕ) (xs : List A) (i j : ℕ) (a b : A) → get_elem? xs i ≡ some a → get_elem? xs j ≡ some b → i ≢ j → f a + f b ≤ total f xs
  total_two f [] i j a b e g ne = absurd (some-ne-none a (sym e))
  total_two f (x ∷ xs) zero zero a b e g ne = absurd (ne refl)
  total_two f (x ∷ xs) zero (suc j) a b e g ne = let is : f x ≡ f a = ap f (some-injective x a e) in let r = total_here f xs j b g in omega arith
  total_two f (x ∷ xs) (suc i) zero a b e g ne = let is : f x ≡ f b = ap f (some-injective x b g) in let r = total_here f xs i a e in omega arith
  total_two f (x ∷ xs) (suc i) (suc j) a b e g ne = let r = total_two f xs i j a b e g (λ h. ne (ap suc h)) in omega arith

  pub total_set : (f : A → ℕ) (xs : List A) (i : ℕ) (a b : A) → get_elem? xs i ≡ some a → total f (set xs i b) + f a ≡ total f xs + f b
  total_set f [] i a b e = absurd (some-ne-none a (sym e))
  total_set f (x ∷ xs) zero a b e = let is : f x ≡ f a = ap f (some-injective x a e) in omega arith
  total_set f (x ∷ xs) (suc i) a b e = let r = total_set f xs i a b e in omega arith

  pub total_snoc : (f : A → ℕ) (xs : List A) (a : A) → total f (xs ++ a ∷ []) ≡ total f xs + f a
  total_snoc f [] a = omega arith
  total_snoc f (x ∷ xs) a = let r = total_snoc f xs a in omega arith

module _ {E : Type 0} where
  pub entries-append : (xs ys : List (Option E)) → entries_of (xs ++ ys) ≡ entries_of xs ++ entries_of ys
  entries-append [] ys = refl
  entries-append (None ∷ xs) ys = entries-append xs ys
  entries-append (Some e ∷ xs) ys = ap (λ l. e ∷ l) (entries-append xs ys)

  -- the longer of two histories is the first or the second
  pub longer_by : (P : List (Option E) → Type 0) (a b : List (Option E)) → (length b ≤ length a → P a) → (length a < length b → P b) → P (longer a b)
  longer_by P a b first second = dite (dec_lt (length a) (length b))
      (λ lt. subst (λ c. P (cond c b a)) (sym (lt-ltb (length a) (length b) lt)) (second lt))
      (λ ge. subst (λ c. P (cond c b a)) (sym (le-ltb (length a) (length b) (omega arith))) (first (omega arith)))

  pub entries_fewer : (turns : List (Option E)) → length (entries_of turns) ≤ length turns
  entries_fewer [] = omega arith
  entries_fewer (None ∷ turns) = let r = entries_fewer turns in omega arith
  entries_fewer (Some e ∷ turns) = let r = entries_fewer turns in omega arith

  pub entries_one : (e : Option E) → entries_of (e ∷ []) ≡ option_list e
  entries_one None = refl
  entries_one (Some e) = refl

  module _ (by : E → ℕ) (n : ℕ) where
    pub calls-append : (xs ys : List E) → calls_by by n (xs ++ ys) ≡ calls_by by n xs ++ calls_by by n ys
    calls-append [] ys = refl
    calls-append (x ∷ xs) ys = ap (choose (eqb (by x) n) x) (calls-append xs ys) ∙ choose_append (eqb (by x) n) (calls_by by n xs)
      where
        choose_append : (b : _) (zs : List E) → choose b x (zs ++ calls_by by n ys) ≡ choose b x zs ++ calls_by by n ys
        choose_append true zs = refl
        choose_append false zs = refl

    pub calls_own : (e : Option E) → ((x : E) → e ≡ Some x → by x ≡ n) → calls_by by n (option_list e) ≡ option_list e
    calls_own None own = refl
    calls_own (Some x) own = ap (λ b. choose b x []) (eq-eqb (by x) n (own x refl))

    pub calls_other : (e : Option E) → ((x : E) → e ≡ Some x → by x ≢ n) → calls_by by n (option_list e) ≡ []
    calls_other None other = refl
    calls_other (Some x) other = ap (λ b. choose b x []) (ne_eqb (by x) n (other x refl))

    pub calls_snoc_own : (ts : List (Option E)) (e : Option E) → ((x : E) → e ≡ Some x → by x ≡ n) → calls_by by n (entries_of (ts ++ e ∷ [])) ≡ calls_by by n (entries_of ts) ++ option_list e
    calls_snoc_own ts e own = ap (calls_by by n) (entries-append ts (e ∷ []) ∙ ap (λ l. entries_of ts ++ l) (entries_one e)) ∙ (calls-append (entries_of ts) (option_list e) ∙ ap (λ l. calls_by by n (entries_of ts) ++ l) (calls_own e own))

    pub calls_snoc_other : (ts : List (Option E)) (e : Option E) → ((x : E) → e ≡ Some x → by x ≢ n) → calls_by by n (entries_of (ts ++ e ∷ [])) ≡ calls_by by n (entries_of ts)
    calls_snoc_other ts e other = ap (calls_by by n) (entries-append ts (e ∷ []) ∙ ap (λ l. entries_of ts ++ l) (entries_one e)) ∙ (calls-append (entries_of ts) (option_list e) ∙ (ap (λ l. calls_by by n (entries_of ts) ++ l) (calls_other e other) ∙ append-nil (calls_by by n (entries_of ts))))

pub own_here : (all : List Holding) (n : ℕ) (own : Holding) → 0 < n → n ≤ length all → held_by (with_held_by all n own) n ≡ own
own_here all n own some_n inside = get_or-set_same all (n - 1) own [] (omega arith)

pub own_else : (all : List Holding) (n m : ℕ) (own : Holding) → 0 < n → 0 < m → m ≢ n → held_by (with_held_by all n own) m ≡ held_by all m
own_else all n m own a b apart = get_or-set_other all (n - 1) (m - 1) own [] (λ e. apart (omega arith))

no_more : {A : Type 0} (xs ys : List A) → xs ++ ys ≡ xs → ys ≡ []
no_more [] ys e = e
no_more (x ∷ xs) ys e = no_more xs ys (let f : x ∷ (xs ++ ys) ≡ x ∷ xs = e in cc)

first_none : {A : Type 0} (xs ys : List A) → xs ++ ys ≡ [] → xs ≡ []
first_none [] ys e = refl
first_none (x ∷ xs) ys e = absurd (let f : x ∷ (xs ++ ys) ≡ [] = e in cc)

module _ {E : Type 0} (by : E → ℕ) (n : ℕ) where
  calls_parts : (a b : List (Option E)) → calls_by by n (entries_of (a ++ b)) ≡ calls_by by n (entries_of a) ++ calls_by by n (entries_of b)
  calls_parts a b = ap (calls_by by n) (entries-append a b) ∙ calls-append by n (entries_of a) (entries_of b)

  -- what comes between a beginning with all calls and the whole has no call
  pub between : (whole a b : List (Option E)) → StartsWith whole b → StartsWith b a → calls_by by n (entries_of a) ≡ calls_by by n (entries_of whole) → calls_by by n (entries_of b) ≡ calls_by by n (entries_of a)
  between whole a b s t same = let C : List (Option E) → List E = λ l. calls_by by n (entries_of l) in
      let one : C b ≡ C a ++ C t.0 = ap C t.1 ∙ calls_parts a t.0 in
      let two : C whole ≡ (C a ++ C t.0) ++ C s.0 = ap C s.1 ∙ (calls_parts b s.0 ∙ ap (λ l. l ++ C s.0) one) in
      let three : C a ++ (C t.0 ++ C s.0) ≡ C a = sym (append_assoc (C a) (C t.0) (C s.0)) ∙ (sym two ∙ sym same) in
      one ∙ (ap (λ l. C a ++ l) (first_none (C t.0) (C s.0) (no_more (C a) (C t.0 ++ C s.0) three)) ∙ append-nil (C a))

  -- a number above all has no calls
  pub no_calls : (made : ℕ) (es : List E) → made < n → All (λ (e : E). (0 < by e) × (by e ≤ made)) es → calls_by by n es ≡ []
  no_calls made [] above all = refl
  no_calls made (e ∷ es) above all = let first = all 0 e (omega arith) in let le = first.1 in
      ap (λ b. choose b e (calls_by by n es)) (ne_eqb (by e) n (λ same. omega arith)) ∙ no_calls made es above (λ k d lt. all (suc k) d (omega arith))

module _ {A : Type 0} where
  pub All_next : (P : A → Type 0) (all done : List A) (x : A) (left : List A) → All P all → all ≡ done ++ x ∷ left → P x
  All_next P all done x left h is = subst P (middle done) (subst (All P) is h (length done) x (omega (arith, length-append done (x ∷ left))))
    where
      middle : (xs : List A) → get_or (xs ++ x ∷ left) (length xs) x ≡ x
      middle [] = refl
      middle (y ∷ ys) = middle ys

  pub append_none : (xs : List A) → xs ++ [] ≡ xs
  append_none = append-nil

  pub none_left : (xs : List A) → length xs ≡ 0 → xs ≡ []
  none_left = nil_from_length

  pub none_more : (whole part rest : List A) → whole ≡ part ++ rest → length rest ≡ 0 → whole ≡ part
  none_more whole part rest is none = is ∙ (ap (λ l. part ++ l) (none_left rest none) ∙ append_none part)
