-- What stands for a session's calls in a history that goes on.
use Rattle.session_host.proofs.Common.{Bool, Entry, List, StartsWith, [], ap, append-nil, arith, caller_of, calls_by, cond, eq-eqb, eqb, false, length, map, of_calls, refl, sym, true, ℕ, ◌++◌, ◌+◌, ◌∙◌, ◌∷◌, ◌≡◌}
use Rattle.session_host.proofs.History.{chosen_length, last_call, none_after, none_chosen}

module _ {X : Type 0} (at : ℕ → Entry → X) where
  cond_append : (b : Bool) (x : X) (xs ys : List X) → cond b (x ∷ (xs ++ ys)) (xs ++ ys) ≡ cond b (x ∷ xs) xs ++ ys
  cond_append true x xs ys = refl
  cond_append false x xs ys = refl

  calls-append : (session rank : ℕ) (xs ys : List Entry) → of_calls at session rank (xs ++ ys) ≡ of_calls at session rank xs ++ of_calls at session (rank + length xs) ys
  calls-append session rank [] ys = ap (λ k. of_calls at session k ys) (let m : rank ≡ rank + 0 = omega arith in m)
  calls-append session rank (x ∷ xs) ys =
      let front : List X = of_calls at session (rank + 1) xs in
      let later : of_calls at session (rank + 1) (xs ++ ys) ≡ front ++ of_calls at session (rank + length (x ∷ xs)) ys =
      calls-append session (rank + 1) xs ys ∙ ap (λ k. front ++ of_calls at session k ys) (let m : rank + 1 + length xs ≡ rank + length (x ∷ xs) = omega arith in m) in
      ap (λ ps. cond (eqb x.caller session) (at rank x ∷ ps) ps) later ∙ cond_append (eqb x.caller session) (at rank x) front (of_calls at session (rank + length (x ∷ xs)) ys)

  -- where no entry is the session's, nothing stands for one
  no_calls : (session rank : ℕ) (h : List Entry) → calls_by caller_of session h ≡ [] → of_calls at session rank h ≡ []
  no_calls session rank [] none = refl
  no_calls session rank (e ∷ es) none =
      none_chosen (eqb e.caller session) e (calls_by caller_of session es) (at rank e) (of_calls at session (rank + 1) es) none (no_calls session (rank + 1) es)

  -- in a history that goes on without a call of the session's the same stands for its calls
  pub same_later : (session : ℕ) (before after : List Entry) → StartsWith after before → calls_by caller_of session after ≡ calls_by caller_of session before →
      of_calls at session 0 after ≡ of_calls at session 0 before
  same_later session before after s same =
      ap (of_calls at session 0) s.1
      ∙ (calls-append session 0 before s.0
      ∙ (ap (λ ps. of_calls at session 0 before ++ ps) (no_calls session (0 + length before) s.0 (none_after session after before s same))
      ∙ append-nil (of_calls at session 0 before)))

  -- one more call of the session

  last_of : (session : ℕ) (before : List Entry) (e : Entry) → e.caller ≡ session → of_calls at session 0 (before ++ e ∷ []) ≡ of_calls at session 0 before ++ at (length before) e ∷ []
  last_of session before e by =
      calls-append session 0 before (e ∷ [])
      ∙ (ap (λ b. of_calls at session 0 before ++ cond b (at (0 + length before) e ∷ []) []) (eq-eqb e.caller session by)
      ∙ ap (λ k. of_calls at session 0 before ++ at k e ∷ []) (let z : 0 + length before ≡ length before = omega arith in z))

  pub one_more_of : (session : ℕ) (old before new : List Entry) (e : Entry) → StartsWith before old → calls_by caller_of session before ≡ calls_by caller_of session old → e.caller ≡ session →
      StartsWith new (before ++ e ∷ []) → calls_by caller_of session new ≡ calls_by caller_of session old ++ e ∷ [] → of_calls at session 0 new ≡ of_calls at session 0 old ++ at (length before) e ∷ []
  one_more_of session old before new e since same by seen calls =
      same_later session (before ++ e ∷ []) new seen (calls ∙ sym (last_call session before e by ∙ ap (λ l. l ++ e ∷ []) same))
      ∙ (last_of session before e by
      ∙ ap (λ ps. ps ++ at (length before) e ∷ []) (same_later session old before since same))

  -- as much stands for them as there are
  pub as_many : (session rank : ℕ) (h : List Entry) → length (of_calls at session rank h) ≡ length (calls_by caller_of session h)
  as_many session rank [] = refl
  as_many session rank (e ∷ h) = chosen_length (eqb e.caller session) e (calls_by caller_of session h) (at rank e) (of_calls at session (rank + 1) h) (as_many session (rank + 1) h)

map_chosen : {X Y : Type 0} (f : X → Y) (b : Bool) (x : X) (xs : List X) (ys : List Y) → map f xs ≡ ys → map f (cond b (x ∷ xs) xs) ≡ cond b (f x ∷ ys) ys
map_chosen f true x xs ys is = ap (λ l. f x ∷ l) is
map_chosen f false x xs ys is = is

-- what is made of what stands for them
pub map_of_calls : {X Y : Type 0} (f : X → Y) (at : ℕ → Entry → X) (session rank : ℕ) (h : List Entry) → map f (of_calls at session rank h) ≡ of_calls (λ r e. f (at r e)) session rank h
map_of_calls f at session rank [] = refl
map_of_calls f at session rank (e ∷ h) =
    map_chosen f (eqb e.caller session) (at rank e) (of_calls at session (rank + 1) h) (of_calls (λ r e. f (at r e)) session (rank + 1) h) (map_of_calls f at session (rank + 1) h)
