-- How many keys of an owner an image has doesn't depend on which directory of it counts them.
use Rattle.std.proofs.Common.{Bool, List, None, Option, Some, [], ap, ap₂, arith, cond, count_by, false, get_or, inl, inr, refl, replicate, subst, suc, sym, true, zero, ℕ, ◌+◌, ◌<◌, ◌==◌, ◌∙◌, ◌∷◌, ◌≡◌, ◌≤◌}
use Rattle.std.proofs.lemmas.List.Sums.{sum_by-cons}
use Rattle.std.proofs.lemmas.Bool.Decides.{leb_tells}
use Rattle.key_cells.specs.{declared.state.CellState.CellState, declared.state.CellState.TheVariants.Free, declared.state.CellState.TheVariants.Open, declared.state.CellState.TheVariants.Shut, declared.state.CellState.TheVariants.Unsure, Prelude.IsFoundIn, Prelude.body, Prelude.cell_state, Prelude.gate, Prelude.is_of_range}
use Rattle.key_cells.specs.Opening.{Finds}
use Rattle.key_cells.specs.Layout.{cells_of}
use Rattle.persistent_keys.proofs.Filing.{one_id}
use Rattle.store_core.specs.Prelude.{IsFirstOver}

counts : (p : CellState → Bool) (x : CellState) (xs : List CellState) → count_by p (x ∷ xs) ≡ cond (p x) 1 0 + count_by p xs
counts p x xs = sum_by-cons (λ x. cond (p x) 1 0) x xs

-- lists that pass a test at the same places have as many that pass it, where what stands beyond an end doesn't pass
module _ (p : CellState → Bool) (free : p Free ≡ false) where
  none_pass : (xs : List CellState) → ((i : ℕ) → p (cell_state xs i) ≡ false) → count_by p xs ≡ 0
  none_pass [] h = refl
  none_pass (x ∷ xs) h = counts p x xs ∙ ap₂ (λ b n. cond b 1 0 + n) (h 0) (none_pass xs (λ i. h (suc i)))

  as_many : (xs ys : List CellState) → ((i : ℕ) → p (cell_state xs i) ≡ p (cell_state ys i)) → count_by p xs ≡ count_by p ys
  as_many [] ys h = sym (none_pass ys (λ i. sym (h i) ∙ free))
  as_many (x ∷ xs) [] h = none_pass (x ∷ xs) (λ i. h i ∙ free)
  as_many (x ∷ xs) (y ∷ ys) h = counts p x xs ∙ (ap₂ (λ b n. cond b 1 0 + n) (h 0) (as_many xs ys (λ i. h (suc i))) ∙ sym (counts p y ys))

same_key : (range : ℕ) (one other : CellState) (gate body : List ℕ) → Finds one gate body → Finds other gate body → is_of_range range one ≡ is_of_range range other
same_key range Free Free gate body h k = refl
same_key range Free (Open id creation) gate body h k = absurd (h k.0)
same_key range Free Shut gate body h k = absurd k
same_key range Free Unsure gate body h k = absurd k
same_key range (Open id creation) Free gate body h k = absurd (k h.0)
same_key range (Open id creation) (Open more another) gate body h k = ap (λ n. is_of_range range (Open n 0)) (one_id id more body h.1 k.1)
same_key range (Open id creation) Shut gate body h k = absurd k
same_key range (Open id creation) Unsure gate body h k = absurd k
same_key range Shut other gate body h k = absurd h
same_key range Unsure other gate body h k = absurd h

pub same_counts : (image : List ℕ) (one other : List CellState) → IsFoundIn image one → IsFoundIn image other → (range : ℕ) → count_by (is_of_range range) one ≡ count_by (is_of_range range) other
same_counts [] one other h k range = ap (count_by (is_of_range range)) (h ∙ sym k)
same_counts (byte ∷ rest) one other h k range = as_many (is_of_range range) refl one other (λ i. at i)
  where
    image : List ℕ
    image = byte ∷ rest

    at : (i : ℕ) → is_of_range range (cell_state one i) ≡ is_of_range range (cell_state other i)
    at i = elim (leb_tells (cells_of image) i) [
      | inl past ↦ ap (is_of_range range) (h.beyond i past.1 ∙ sym (k.beyond i past.1))
      | inr within ↦ let lt : i < cells_of image = (let w = within.1 in omega arith) in same_key range (cell_state one i) (cell_state other i) (gate i image) (body i image) (h.each i lt) (k.each i lt)
    ]

-- so an image has one first owner over quota
pub one_over : (image : List ℕ) (one other : List CellState) (a b : ℕ) → IsFoundIn image one → IsFoundIn image other → IsFirstOver one a → IsFirstOver other b → a ≡ b
one_over image one other a b h k first second =
    let counts_a = same_counts image one other h k a in let counts_b = same_counts image one other h k b in
    elim (leb_tells a b) [
      | inl le ↦ elim (leb_tells b a) [
        | inl ge ↦ omega (arith, le.1, ge.1)
        | inr less ↦ absurd (let few = second.below a less.1 in let here = first.here in omega (arith, counts_a, few, here))
      ]
      | inr less ↦ absurd (let few = first.below b less.1 in let here = second.here in omega (arith, counts_b, few, here))
    ]
