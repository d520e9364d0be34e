-- How often a number stands in a row.
use Rattle.slot_table.proofs.Common.{List, [], add_assoc, ap, arith, cases_eq, cond, eqb, false, get_or, length, nat_tests, not, recency_without, refl, suc, sym, times, true, zero, zero-add, ℕ, ⊎_elim, ◌++◌, ◌+◌, ◌<◌, ◌∙◌, ◌∷◌, ◌≡◌, ◌≢◌, ◌≤◌}

pub times-append : (i : ℕ) (xs ys : List ℕ) → times i (xs ++ ys) ≡ times i xs + times i ys
times-append i [] ys = sym (zero-add (times i ys))
times-append i (x ∷ xs) ys =
    ap (λ n. cond (eqb x i) 1 0 + n) (times-append i xs ys) ∙ sym (add_assoc (cond (eqb x i) 1 0) (times i xs) (times i ys))

-- a row is left as it is by the loss of a number that isn't in it
pub without_none : (i : ℕ) (xs : List ℕ) → times i xs ≡ 0 → recency_without i xs ≡ xs
without_none i [] none = refl
without_none i (x ∷ xs) none =
    elim (eqb x i) as (λ b. cond b 1 0 + times i xs ≡ 0 → cond (not b) (x ∷ recency_without i xs) (recency_without i xs) ≡ x ∷ xs) [
      | true ↦ λ h. absurd (omega arith)
      | false ↦ λ h. ap (λ zs. x ∷ zs) (without_none i xs (omega arith))
    ] none

pub length-without : (i : ℕ) (xs : List ℕ) → length (recency_without i xs) + times i xs ≡ length xs
length-without i [] = refl
length-without i (x ∷ xs) =
    elim (eqb x i) as (λ b. length (cond (not b) (x ∷ recency_without i xs) (recency_without i xs)) + (cond b 1 0 + times i xs) ≡ suc (length xs)) [
      | true ↦ omega (arith, length-without i xs)
      | false ↦ omega (arith, length-without i xs)
    ]

pub times-same : (i : ℕ) (xs : List ℕ) → times i (recency_without i xs) ≡ 0
times-same i [] = refl
times-same i (x ∷ xs) =
    let e : times i (recency_without i xs) ≡ 0 = times-same i xs in
    grind (arith, nat_tests)

pub times-other : (i j : ℕ) (xs : List ℕ) → i ≢ j → times i (recency_without j xs) ≡ times i xs
times-other i j [] ne = refl
times-other i j (x ∷ xs) ne =
    let e : times i (recency_without j xs) ≡ times i xs = times-other i j xs ne in
    grind (arith, nat_tests)

-- a number that stands in a row stands there at least once
pub times-at : (i : ℕ) (xs : List ℕ) (place : ℕ) → place < length xs → get_or xs place 0 ≡ i → 1 ≤ times i xs
times-at i [] place within is = absurd (omega arith)
times-at i (x ∷ xs) zero within is = grind (arith, nat_tests)
times-at i (x ∷ xs) (suc place) within is =
    let h : 1 ≤ times i xs = times-at i xs place (omega arith) is in
    omega arith

-- a row of numbers below a bound, each at most once, isn't longer than the bound
pub length_distinct : (n : ℕ) (xs : List ℕ) → ((i : ℕ) → times i xs ≤ 1) → ((i : ℕ) → n ≤ i → times i xs ≡ 0) → length xs ≤ n
length_distinct zero [] once none = omega arith
length_distinct zero (x ∷ xs) once none =
    let here : times x (x ∷ xs) ≡ 0 = none x (omega arith) in
    let least : 1 ≤ times x (x ∷ xs) = times-at x (x ∷ xs) 0 (omega arith) refl in
    absurd (omega (arith, here, least))
length_distinct (suc n) xs once none =
    let rest : length (recency_without n xs) ≤ n = length_distinct n (recency_without n xs) fewer absent in
    let one : times n xs ≤ 1 = once n in
    omega (arith, rest, one, length-without n xs) where
      fewer : (i : ℕ) → times i (recency_without n xs) ≤ 1
      fewer i =
          ⊎_elim (λ (same : i ≡ n). rw (same, times-same n xs) (omega arith)) (λ (other : i ≢ n). rw (times-other i n xs other) (once i)) (cases_eq i n)

      absent : (i : ℕ) → n ≤ i → times i (recency_without n xs) ≡ 0
      absent i past =
          ⊎_elim (λ (same : i ≡ n). rw (same, times-same n xs) refl) (λ (other : i ≢ n). times-other i n xs other ∙ none i (omega arith)) (cases_eq i n)
