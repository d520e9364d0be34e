-- A block, by the scheme, and its length.
use Rattle.std.proofs.Common.{List, ap, false, inl, inr, length, refl, suc, true, zero, ℕ, ◌∙◌, ◌≡◌, ◌≤◌}
use Rattle.crypto_specs.proofs.CodeLengths.{length-expand_block, length-pbkdf2_block}
use Rattle.derivation_states.proofs.Common.{DerivationWork, block_at, bytes_or_empty, cases_Bool, cond-false, cond-true, expand_block, extract, is_hkdf, number_or_zero, pbkdf2_block, work_block_length, work_hash}

-- HKDF's pseudorandom key
abbrev pub prk_of : DerivationWork → List ℕ
prk_of w = extract (work_hash w) (work_block_length w) (bytes_or_empty w.salt) (bytes_or_empty w.secret)

abbrev pub by_hkdf : DerivationWork → ℕ → List ℕ
by_hkdf w = expand_block (work_hash w) (work_block_length w) (prk_of w) (bytes_or_empty w.info)

abbrev pub by_pbkdf2 : DerivationWork → ℕ → List ℕ
by_pbkdf2 w = pbkdf2_block (work_hash w) (work_block_length w) (bytes_or_empty w.secret) (bytes_or_empty w.salt) (number_or_zero w.cost)

pub block_of_hkdf : (w : DerivationWork) → is_hkdf w.alg ≡ true → (n : ℕ) → block_at w n ≡ by_hkdf w n
unfolding expand_block
block_of_hkdf w e zero = refl
block_of_hkdf w e (suc i) = cond-true (is_hkdf w.alg) _ _ e

pub block_of_pbkdf2 : (w : DerivationWork) → is_hkdf w.alg ≡ false → (i : ℕ) → block_at w (suc i) ≡ by_pbkdf2 w (suc i)
block_of_pbkdf2 w e i = cond-false (is_hkdf w.alg) _ _ e

-- each block is as long as a digest: PBKDF2 has some turns
pub record HasBlocks (w : DerivationWork) (h : ℕ) : Type 0 where
  pub some : 1 ≤ h
  pub digest : (m : List ℕ) → length (work_hash w m) ≡ h
  pub turns : is_hkdf w.alg ≡ false → 1 ≤ number_or_zero w.cost

pub length-block_at : (w : DerivationWork) (h : ℕ) → HasBlocks w h → (i : ℕ) → length (block_at w (suc i)) ≡ h
length-block_at w h blocks i = elim (cases_Bool (is_hkdf w.alg)) [
  | inl e ↦ ap length (block_of_hkdf w e (suc i)) ∙ length-expand_block (work_hash w) h _ blocks.digest _ _ i
  | inr e ↦ ap length (block_of_pbkdf2 w e i) ∙ length-pbkdf2_block (work_hash w) h _ blocks.digest _ _ _ (suc i) (blocks.turns e)
]
