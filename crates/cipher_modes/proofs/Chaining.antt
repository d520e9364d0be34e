-- CBC, one block at a time.
use Rattle.cipher_modes.proofs.Common.{List, ap, cbc_blocks, cbc_plain_blocks, sym, xor_bytes, ℕ, ◌∷◌, ◌≡◌}

pub cbc_block : (e : List ℕ → List ℕ) (chain block out : List ℕ) → out ≡ e (xor_bytes block chain)
    → (rest : List (List ℕ)) → cbc_blocks e chain (block ∷ rest) ≡ out ∷ cbc_blocks e out rest
unfolding cbc_blocks
cbc_block e chain block out h rest = ap (λ (c : List ℕ). c ∷ cbc_blocks e c rest) (sym h)

pub cbc_plain_block : (d : List ℕ → List ℕ) (chain block out : List ℕ) → out ≡ xor_bytes (d block) chain
    → (rest : List (List ℕ)) → cbc_plain_blocks d chain (block ∷ rest) ≡ out ∷ cbc_plain_blocks d block rest
unfolding cbc_plain_blocks
cbc_plain_block d chain block out h rest = ap (λ (c : List ℕ). c ∷ cbc_plain_blocks d block rest) (sym h)
