-- A session's calls in a history that goes on, and its turns.
use Rattle.session_host.proofs.Common.{AreCalls, Bool, Names, asked, Entry, List, ScriptLine, StartsWith, Turn, [], ap, append-nil, append_assoc, arith, caller_of, calls-append, calls_by, choose, cond, eq-eqb, false, filter, filter-append, id_given, length, map, numbered, printed, refl, request_of, suc, sym, true, ℕ, ◌++◌, ◌+◌, ◌==◌, ◌∙◌, ◌∷◌, ◌≡◌}

-- where no entry is the session's, nothing stands for one

not_empty : {A : Type 0} (x : A) (xs : List A) → x ∷ xs ≡ [] → ⊥
not_empty x xs e = cc

pub none_chosen : {X : Type 0} (b : Bool) (e : Entry) (es : List Entry) (x : X) (xs : List X) → choose b e es ≡ [] → (es ≡ [] → xs ≡ []) → cond b (x ∷ xs) xs ≡ []
none_chosen true e es x xs none rest = absurd (not_empty e es none)
none_chosen false e es x xs none rest = rest none

no_more : {A : Type 0} (xs ys : List A) → xs ++ ys ≡ xs → ys ≡ []
no_more [] ys e = e
no_more (x ∷ xs) ys e = no_more xs ys (let f : x ∷ (xs ++ ys) ≡ x ∷ xs = e in cc)

-- a history that begins so and has no further call of the session's has none after that
pub none_after : (session : ℕ) (whole part : List Entry) (s : StartsWith whole part) → calls_by caller_of session whole ≡ calls_by caller_of session part → calls_by caller_of session s.0 ≡ []
none_after session whole part s same =
    let parts : calls_by caller_of session whole ≡ calls_by caller_of session part ++ calls_by caller_of session s.0 = ap (calls_by caller_of session) s.1 ∙ calls-append caller_of session part s.0 in
    no_more (calls_by caller_of session part) (calls_by caller_of session s.0) (sym parts ∙ same)

-- as many as calls

pub chosen_length : {X : Type 0} (b : Bool) (e : Entry) (es : List Entry) (x : X) (xs : List X) → length xs ≡ length es → length (cond b (x ∷ xs) xs) ≡ length (choose b e es)
chosen_length true e es x xs same = ap suc same
chosen_length false e es x xs same = same

-- one more call of the session

pub last_call : (session : ℕ) (before : List Entry) (e : Entry) → e.caller ≡ session → calls_by caller_of session (before ++ e ∷ []) ≡ calls_by caller_of session before ++ e ∷ []
last_call session before e by = calls-append caller_of session before (e ∷ []) ∙ ap (λ b. calls_by caller_of session before ++ choose b e []) (eq-eqb e.caller session by)

-- the calls of lines, and one more

pub calls_more : (names : Names) (ids : List ℕ) (lines : List ScriptLine) (ts : List Turn) (line : ScriptLine) (t : Turn) → AreCalls names ids lines ts →
    t.entry.caller ≡ line.session → t.entry.call ≡ asked names line.session (request_of (ids ++ map (λ t. id_given t.reply.output) ts) line.call) → AreCalls names ids (lines ++ line ∷ []) (ts ++ t ∷ [])
calls_more names ids [] [] line t h s c = (s, c ∙ ap (λ is. asked names line.session (request_of is line.call)) (append-nil ids), tt)
calls_more names ids [] (u ∷ ts) line t h s c = absurd h
calls_more names ids (l ∷ lines) [] line t h s c = absurd h
calls_more names ids (l ∷ lines) (u ∷ ts) line t h s c = (
  h.0,
  h.1,
  calls_more names (ids ++ id_given u.reply.output ∷ []) lines ts line t h.2 s
      (c ∙ ap (λ is. asked names line.session (request_of is line.call)) (sym (append_assoc ids (id_given u.reply.output ∷ []) (map (λ t. id_given t.reply.output) ts)))),
)

pub calls_length : (names : Names) (ids : List ℕ) (lines : List ScriptLine) (ts : List Turn) → AreCalls names ids lines ts → length lines ≡ length ts
calls_length names ids [] [] h = refl
calls_length names ids [] (u ∷ ts) h = absurd h
calls_length names ids (l ∷ lines) [] h = absurd h
calls_length names ids (l ∷ lines) (u ∷ ts) h = let r = calls_length names (ids ++ id_given u.reply.output ∷ []) lines ts h.2 in omega arith

pub kept_own : {X : Type 0} (p : X → Bool) (xs : List X) (x : X) → p x ≡ true → filter p (xs ++ x ∷ []) ≡ filter p xs ++ x ∷ []
kept_own p xs x e = filter-append p xs (x ∷ []) ∙ ap (λ b. filter p xs ++ cond b (x ∷ []) []) e

pub left_out : {X : Type 0} (p : X → Bool) (xs : List X) (x : X) → p x ≡ false → filter p (xs ++ x ∷ []) ≡ filter p xs
left_out p xs x e = filter-append p xs (x ∷ []) ∙ ap (λ b. filter p xs ++ cond b (x ∷ []) []) e ∙ append-nil (filter p xs)

-- the numbers of a session's replies

pub numbered_length : (n : ℕ) (ts : List Turn) → length (numbered n ts) ≡ length ts
numbered_length n [] = refl
numbered_length n (t ∷ ts) = omega (arith, numbered_length (n + 1) ts)

pub numbered_more : (n : ℕ) (ts : List Turn) (t : Turn) → numbered n (ts ++ t ∷ []) ≡ numbered n ts ++ printed (n + length ts) t ∷ []
numbered_more n [] t = let m : n ≡ n + 0 = omega arith in ap (λ k. printed k t ∷ []) m
numbered_more n (x ∷ ts) t =
    let m : n + 1 + length ts ≡ n + length (x ∷ ts) = omega arith in
    ap (λ rs. printed n x ∷ rs) (numbered_more (n + 1) ts t ∙ ap (λ k. numbered (n + 1) ts ++ printed k t ∷ []) m)
