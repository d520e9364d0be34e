-- How many entries lie between two identifiers.
use Rattle.key_index.proofs.Common.{Bool, Entry, List, [], ap, arith, cond, false, get_or, length, refl, true, ℕ, ◌+◌, ◌<◌, ◌∙◌, ◌∷◌, ◌≡◌, ◌≤◌}
use Rattle.key_index.specs.Index.{is_between}
use Rattle.std.proofs.{Common.count_by, Common.nat_le, Common.nat_lt, Common.suc, Common.zero, lemmas.Bool.Decides.nat_tests, lemmas.List.Sums.sum_by-cons}

module _ {X : Type 0} where
  counts : (p : X → Bool) (x : X) (xs : List X) → count_by p (x ∷ xs) ≡ cond (p x) 1 0 + count_by p xs
  counts p x xs = sum_by-cons (λ (y : X). cond (p y) 1 0) x xs

  none_counted : (p : X → Bool) (xs : List X) → ((k : ℕ) (d : X) → k < length xs → p (get_or xs k d) ≡ false) → count_by p xs ≡ 0
  none_counted p [] none = refl
  none_counted p (x ∷ xs) none =
      counts p x xs ∙ omega (arith, ap (λ (b : Bool). cond {A = ℕ} b 1 0) (none 0 x (omega arith)), none_counted p xs (λ k d lt. none (suc k) d (omega (arith, lt))))

  -- where the first so many pass, and no other, so many are counted
  pub counted_at : (p : X → Bool) (xs : List X) (i : ℕ) → i ≤ length xs → ((k : ℕ) (d : X) → k < i → p (get_or xs k d) ≡ true) → ((k : ℕ) (d : X) → i ≤ k → k < length xs → p (get_or xs k d) ≡ false) → count_by p xs ≡ i
  counted_at p [] i within pass fail = omega (arith, within)
  counted_at p (x ∷ xs) zero within pass fail = none_counted p (x ∷ xs) (λ k d lt. fail k d (omega arith) lt)
  counted_at p (x ∷ xs) (suc i) within pass fail =
      counts p x xs ∙ omega (
        arith,
        ap (λ (b : Bool). cond {A = ℕ} b 1 0) (pass 0 x (omega arith)),
        counted_at p xs i (omega (arith, within)) (λ k d lt. pass (suc k) d (omega (arith, lt))) (λ k d past lt. fail (suc k) d (omega (arith, past)) (omega (arith, lt))),
      )

one_more : (first last id : ℕ) → first ≤ last → cond {A = ℕ} (nat_le id last) 1 0 ≡ cond (nat_lt id first) 1 0 + cond (is_between first last id) 1 0
one_more first last id ordered = grind (arith, nat_tests)

-- those to the last are those below the first and those between
pub between : (first last : ℕ) (entries : List Entry) → first ≤ last → count_by (λ e. nat_le e.id last) entries ≡ count_by (λ e. nat_lt e.id first) entries + count_by (λ e. is_between first last e.id) entries
between first last [] ordered = refl
between first last (e ∷ entries) ordered =
    omega (arith, counts (λ (e : Entry). nat_le e.id last) e entries, counts (λ (e : Entry). nat_lt e.id first) e entries, counts (λ (e : Entry). is_between first last e.id) e entries, one_more first last e.id ordered, between first last entries ordered)
