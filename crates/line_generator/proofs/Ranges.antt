-- One more element behind those that a range gives.
use Rattle.line_generator.proofs.Common.{map-range_with_len_more, range_with_len, List, [], arith, map, ℕ, ◌++◌, ◌+◌, ◌∙◌, ◌∷◌, ◌≡◌, sym}

-- the elements that numbers below one more give
pub mapped_more : {X : Type 0} (f : ℕ → X) (n : ℕ) (done next : List X) (x : X) → done ≡ map f (range_with_len 0 n) → x ≡ f n → next ≡ done ++ x ∷ [] →
    next ≡ map f (range_with_len 0 (n + 1))
mapped_more f n done next x e g h = h ∙ (λ i. e i ++ g i ∷ []) ∙ sym (map-range_with_len_more f 0 n n (omega arith))
