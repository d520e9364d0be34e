-- Sums over the numbers below a bound, and how many keys of a map can be named.
use Rattle.key_slots.proofs.Common.{ap, arith, Bool, cases_eq, cond, false, false≢true, inl, inr, is_some, map_empty_of_len, map_FinMap, map_get, map_get-empty, map_get-remove, map_len, map_len-remove, map_remove, nat_cmp_total, ne_eqb, None, refl, suc, sym, true, zero, ℕ, ◌*◌, ◌+◌, ◌-◌, ◌<◌, ◌∙◌, ◌≡◌, ◌≢◌, ◌≤◌, ◌⊎◌}
use Rattle.std.specs.{Cmp.unsigned_tied, Ordering.nat_cmp}

unfoldable pub total : (ℕ → ℕ) → ℕ → ℕ
total f zero = 0
total f (suc n) = f n + total f n

pub total-add : (f g : ℕ → ℕ) (n : ℕ) → total (λ i. f i + g i) n ≡ total f n + total g n
unfolding total
total-add f g zero = refl
total-add f g (suc n) = let rest = total-add f g n in omega arith

pub total-least : (f : ℕ → ℕ) (n : ℕ) → ((i : ℕ) → i < n → 1 ≤ f i) → n ≤ total f n
unfolding total
total-least f zero each = omega arith
total-least f (suc n) each = let here = each n (omega arith) in let rest = total-least f n (λ i lt. each i (omega arith)) in omega arith

pub total-most : (f : ℕ → ℕ) (n : ℕ) → ((i : ℕ) → i < n → f i ≤ 16) → total f n ≤ 16 * n
unfolding total
total-most f zero each = omega arith
total-most f (suc n) each = let here = each n (omega arith) in let rest = total-most f n (λ i lt. each i (omega arith)) in omega arith

pub total-none : (f : ℕ → ℕ) (n : ℕ) → ((i : ℕ) → i < n → f i ≡ 0) → total f n ≡ 0
unfolding total
total-none f zero each = refl
total-none f (suc n) each = let here = each n (omega arith) in let rest = total-none f n (λ i lt. each i (omega arith)) in omega arith

-- a sum of which at most one term isn't 0
pub total-one : (f : ℕ → ℕ) (k b n : ℕ) → ((i : ℕ) → i ≢ k → f i ≡ 0) → f k ≤ b → total f n ≤ b
unfolding total
total-one f k b zero others here = omega arith
total-one f k b (suc n) others here = elim (cases_eq n k) [
  | inl same ↦
      let below : total f n ≡ 0 = total-none f n (λ i lt. others i (omega arith)) in
      let at : f n ≡ f k = ap f same in
      omega arith
  | inr other ↦ let none = others n other in let rest = total-one f k b n others here in omega arith
]

pub total-at : (f : ℕ → ℕ) (k n : ℕ) → k < n → f k ≤ total f n
unfolding total
total-at f k zero lt = absurd (omega arith)
total-at f k (suc n) lt = elim (cases_eq k n) [
  | inl same ↦ let at : f k ≡ f n = ap f same in omega arith
  | inr other ↦ let rest = total-at f k n (omega arith) in omega arith
]

pub total-swap : (f : ℕ → ℕ → ℕ) (n m : ℕ) → total (λ i. total (f i) m) n ≡ total (λ c. total (λ i. f i c) n) m
unfolding total
total-swap f zero m = sym (total-none (λ c. 0) m (λ i lt. refl))
total-swap f (suc n) m = ap (λ k. total (f n) m + k) (total-swap f n m) ∙ sym (total-add (f n) (λ c. total (λ i. f i c) n) m)

-- a test passes at some number below a bound, or at none
pub first_passing : (t : ℕ → Bool) (n : ℕ) → ((i : ℕ) × (i < n) × (t i ≡ true)) ⊎ ((i : ℕ) → i < n → t i ≡ false)
first_passing t zero = inr (λ i lt. absurd (omega arith))
first_passing t (suc n) = elim (first_passing t n) [
  | inl found ↦ let lt = found.1 in inl (found.0, omega arith, found.2)
  | inr none ↦ at (t n) refl none
] where
  at : (b : Bool) → t n ≡ b → ((i : ℕ) → i < n → t i ≡ false) → ((i : ℕ) × (i < suc n) × (t i ≡ true)) ⊎ ((i : ℕ) → i < suc n → t i ≡ false)
  at true is none = inl (n, omega arith, is)
  at false is none = inr (λ i lt. elim (cases_eq i n) [
    | inl same ↦ ap t same ∙ is
    | inr other ↦ none i (omega arith)
  ])

-- a map with some key isn't empty
some_len : {X : Type 0} (m : map_FinMap nat_cmp X) (k : ℕ) → is_some (map_get m k) ≡ true → 1 ≤ map_len m
some_len m k some = elim (cases_eq (map_len m) 0) [
  | inl none ↦ absurd (false≢true (sym (ap is_some (map_get-empty nat_cmp k)) ∙ ap (λ (x : _). is_some (map_get x k)) (sym (map_empty_of_len m none)) ∙ some))
  | inr many ↦ omega arith
]

-- so many different keys of a map are at most as many as it has
pub into_map : {X : Type 0} (m : map_FinMap nat_cmp X) (f : ℕ → ℕ) (t : ℕ → Bool) (n : ℕ) →
    ((i : ℕ) → i < n → t i ≡ true → is_some (map_get m (f i)) ≡ true) →
    ((i j : ℕ) → i < n → j < n → t i ≡ true → t j ≡ true → f i ≡ f j → i ≡ j) →
    total (λ i. cond (t i) 1 0) n ≤ map_len m
unfolding total
into_map m f t zero has one = omega arith
into_map m f t (suc n) has one = elim (t n) as (λ b. t n ≡ b → cond b 1 0 + total (λ i. cond (t i) 1 0) n ≤ map_len m) [
  | true ↦ λ is.
      let here = has n (omega arith) is in
      let less : map_len (map_remove m (f n)) ≡ map_len m - 1 = map_len-remove nat_cmp_total m (f n) ∙ ap (λ b. cond b (map_len m - 1) (map_len m)) here in
      let some = some_len m (f n) here in
      let rest = into_map (map_remove m (f n)) f t n
      (λ i lt passes.
      let other : f i ≢ f n = λ same. let e = one i n (omega arith) (omega arith) passes is same in omega arith in
      ap is_some (map_get-remove nat_cmp_total m (f n) (f i) ∙ ap (λ b. cond b None (map_get m (f i))) (unsigned_tied (f i) (f n) ∙ ne_eqb (f i) (f n) other)) ∙ has i (omega arith) passes)
      (λ i j at_i at_j. one i j (omega arith) (omega arith)) in
      omega arith
  | false ↦ λ is. let rest = into_map m f t n (λ i lt. has i (omega arith)) (λ i j at_i at_j. one i j (omega arith) (omega arith)) in omega arith
] refl
