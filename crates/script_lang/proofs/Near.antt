-- A search that looks at the front of a text byte by byte, and then at the rest.
use Rattle.std.proofs.{Common.Bool, Common.List, Common.ap, Common.arith, Common.drop, Common.inl, Common.inr, Common.length, Common.slice_index, Common.subst, Common.sym, Common.take, Common.ℕ, Common.◌+◌, Common.◌-◌, Common.◌<◌, Common.◌∙◌, Common.◌≡◌, Common.◌≤◌, Common.◌⊎◌, lemmas.Bool.cases_lt, lemmas.List.get_or-drop, lemmas.List.length-drop}
use Rattle.script_lang.proofs.Common.{take_all}
use Rattle.memchr.specs.Find.{NoneBefore, Nowhere, Passes}

module _ (test : ℕ → Bool) (text : List ℕ) (n : ℕ) (within : n ≤ length text) (front : Nowhere (Passes test text) 0 n) where
  abbrev rest : List ℕ
  rest = take (length text - n) (drop n text)

  is_rest : rest ≡ drop n text
  is_rest = take_all (length text - n) (drop n text) (omega (arith, length-drop n text))

  size : n + length rest ≡ length text
  size = ap (λ (l : List ℕ). n + length l) is_rest ∙ omega (arith, length-drop n text, within)

  same : (j : ℕ) → slice_index rest j ≡ slice_index text (n + j)
  same j = ap (λ (l : List ℕ). slice_index l j) is_rest ∙ get_or-drop n text j 0

  before : (j : ℕ) → Nowhere (Passes test rest) 0 j → Nowhere (Passes test text) 0 (n + j)
  before j none k low high is = go (cases_lt k n) where
    here : n ≤ k → slice_index rest (k - n) ≡ slice_index text k
    here past = same (k - n) ∙ ap (slice_index text) (omega (arith, past))

    go : (k < n) ⊎ (n ≤ k) → ⊥
    go (inl lt) = front k low lt is
    go (inr past) = none (k - n) (omega arith) (omega (arith, past, high)) (ap test (here past) ∙ is)

  -- nothing is found in the rest either
  pub nowhere : Nowhere (Passes test rest) 0 (length rest) → Nowhere (Passes test text) 0 (length text)
  nowhere none = subst (λ (m : ℕ). Nowhere (Passes test text) 0 m) size (before (length rest) none)

  -- a place in the rest is one in the text
  pub found : (j : ℕ) → NoneBefore (Passes test rest) 0 (length rest) j × Passes test rest j → NoneBefore (Passes test text) 0 (length text) (n + j) × Passes test text (n + j)
  found j at = (
    record { low = omega arith; high = omega (arith, size, at.0.high); before = before j at.0.before },
    ap test (sym (same j)) ∙ at.1,
  )
