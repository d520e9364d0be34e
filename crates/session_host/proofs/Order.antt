-- Calls in the order of their lines.
use Rattle.session_host.proofs.Common.{AreCalledIn, Bool, Entry, IsInLineOrder, List, ScriptLine, StartsWith, [], ap, append-nil, arith, caller_of, calls_by, choose, cond, eq-eqb, eqb, false, inl, inr, length, lines_of, refl, subst, sym, true, ℕ, ◌++◌, ◌+◌, ◌∷◌, ◌≡◌, ◌≤◌}

-- what is within a list is within a longer one

pub within_later : (lines : List ScriptLine) (more es : List Entry) → AreCalledIn lines es → AreCalledIn lines (more ++ es)
within_later [] more es h = tt
within_later (line ∷ lines) [] es h = h
within_later (line ∷ lines) (e ∷ more) es h = inr (within_later (line ∷ lines) more es h)

pub within_append : (lines further : List ScriptLine) (xs ys : List Entry) → AreCalledIn lines xs → AreCalledIn further ys → AreCalledIn (lines ++ further) (xs ++ ys)
within_append [] further xs ys h k = within_later further xs ys k
within_append (line ∷ lines) further [] ys h k = absurd h
within_append (line ∷ lines) further (x ∷ xs) ys (inl here) k = inl (here.0, within_append lines further xs ys here.1 k)
within_append (line ∷ lines) further (x ∷ xs) ys (inr later) k = inr (within_append (line ∷ lines) further xs ys later k)

pub within_whole : (lines : List ScriptLine) (whole part : List Entry) → StartsWith whole part → AreCalledIn lines part → AreCalledIn lines whole
within_whole lines whole part s h = subst (AreCalledIn lines) (sym s.1) (subst (λ ls. AreCalledIn ls (part ++ s.0)) (append-nil lines) (within_append lines [] part s.0 h tt))

-- one more call after those
pub within_more : (lines : List ScriptLine) (line : ScriptLine) (old before new : List Entry) (e : Entry) → StartsWith before old → StartsWith new (before ++ e ∷ []) → e.caller ≡ line.session →
    AreCalledIn lines old → AreCalledIn (lines ++ line ∷ []) new
within_more lines line old before new e since seen by h =
    within_whole (lines ++ line ∷ []) new (before ++ e ∷ []) seen
    (within_append lines (line ∷ []) before (e ∷ []) (within_whole lines before old since h) (inl (by, tt)))

-- a history with no further call has them in the order of the lines

abbrev one : Bool → ℕ
one true = 1
one false = 0

length_choose : (b : Bool) (e : Entry) (es : List Entry) → length (choose b e es) ≡ one b + length es
length_choose true e es = omega arith
length_choose false e es = omega arith

length_cond : (b : Bool) (line : ScriptLine) (lines : List ScriptLine) → length (cond b (line ∷ lines) lines) ≡ one b + length lines
length_cond true line lines = omega arith
length_cond false line lines = omega arith

by_more : (n : ℕ) (e : Entry) (es : List Entry) → length (calls_by caller_of n (e ∷ es)) ≡ one (eqb e.caller n) + length (calls_by caller_of n es)
by_more n e es = length_choose (eqb e.caller n) e (calls_by caller_of n es)

of_more : (n : ℕ) (line : ScriptLine) (lines : List ScriptLine) → length (lines_of n (line ∷ lines)) ≡ one (eqb line.session n) + length (lines_of n lines)
of_more n line lines = length_cond (eqb line.session n) line (lines_of n lines)

within_counts : (n : ℕ) (lines : List ScriptLine) (es : List Entry) → AreCalledIn lines es → length (lines_of n lines) ≤ length (calls_by caller_of n es)
within_counts n [] es h = omega arith
within_counts n (line ∷ lines) [] h = absurd h
within_counts n (line ∷ lines) (e ∷ es) (inl here) =
    let same : one (eqb e.caller n) ≡ one (eqb line.session n) = ap (λ k. one (eqb k n)) here.0 in
    let rest = within_counts n lines es here.1 in
    let a = by_more n e es in let b = of_more n line lines in omega (arith, same, rest, a, b)
within_counts n (line ∷ lines) (e ∷ es) (inr later) =
    let rest = within_counts n (line ∷ lines) es later in let a = by_more n e es in omega (arith, rest, a)

pub in_line_order : (lines : List ScriptLine) (es : List Entry) → AreCalledIn lines es → ((n : ℕ) → length (lines_of n lines) ≡ length (calls_by caller_of n es)) → IsInLineOrder lines es
in_line_order [] [] h counts = refl
in_line_order [] (e ∷ es) h counts =
    let own : one (eqb e.caller e.caller) ≡ one true = ap one (eq-eqb e.caller e.caller refl) in
    absurd (let c = counts e.caller in let a = by_more e.caller e es in let z : length (lines_of e.caller []) ≡ 0 = refl in let y : one true ≡ 1 = refl in omega (arith, own, c, a, z, y))
in_line_order (line ∷ lines) [] h counts = absurd h
in_line_order (line ∷ lines) (e ∷ es) (inl here) counts =
    let rest = in_line_order lines es here.1 (λ n.
    let same : one (eqb e.caller n) ≡ one (eqb line.session n) = ap (λ k. one (eqb k n)) here.0 in
    let c = counts n in let a = by_more n e es in let b = of_more n line lines in omega (arith, same, c, a, b)) in
    λ i. here.0 i ∷ rest i
in_line_order (line ∷ lines) (e ∷ es) (inr later) counts =
    let own : one (eqb e.caller e.caller) ≡ one true = ap one (eq-eqb e.caller e.caller refl) in
    absurd (let c = counts e.caller in let a = by_more e.caller e es in let f = within_counts e.caller (line ∷ lines) es later in let y : one true ≡ 1 = refl in omega (arith, own, c, a, f, y))
