-- One more block of a message.
use Rattle.cmac_ops.proofs.Common.{List, [], ap, arith, blocks, chain_step, chained, drop, drop-drop, refl, suc, take, xor_bytes, zero, ℕ, ◌*◌, ◌++◌, ◌+◌, ◌∙◌, ◌∷◌, ◌≡◌}
use Rattle.std.proofs.lemmas.List.Sums.{fold-append}

-- one more block
pub blocks-add-one : (n : ℕ) (xs : List ℕ) → blocks (n + 1) xs ≡ blocks n xs ++ take 16 (drop (16 * n) xs) ∷ []
unfolding blocks
blocks-add-one zero xs = refl
blocks-add-one (suc n) xs =
    let more : suc n + 1 ≡ suc (n + 1) = omega arith in
    let place : 16 + 16 * n ≡ 16 * suc n = omega arith in
    ap (λ (k : ℕ). blocks k xs) more
    ∙ ap (λ (bs : List (List ℕ)). take 16 xs ∷ bs) (blocks-add-one n (drop 16 xs) ∙ ap (λ (l : List ℕ). blocks n (drop 16 xs) ++ take 16 l ∷ []) (drop-drop (16 * n) 16 xs ∙ ap (λ (k : ℕ). drop k xs) place))

-- the chain over one more block
pub chained_push : (e : List ℕ → List ℕ) (bs : List (List ℕ)) (b : List ℕ) → chained e (bs ++ b ∷ []) ≡ e (xor_bytes (chained e bs) b)
unfolding chained
chained_push e bs b = fold-append (chain_step e) _ bs (b ∷ [])
