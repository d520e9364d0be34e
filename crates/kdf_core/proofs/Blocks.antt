-- HKDF: the absent salt, and the next block.
use Rattle.kdf_core.proofs.Common.{List, [], ap, arith, expand_block, extract, hash_length, hmac, refl, suc, sym, zero, ℕ, ◌++◌, ◌+◌, ◌-◌, ◌∙◌, ◌∷◌, ◌≡◌, ◌≤◌}
use Rattle.crypto_specs.proofs.HkdfLaws.{absent_salt_is_empty_key}

pub extract_by_hmac : (hash : List ℕ → List ℕ) (n : ℕ) (salt secret : List ℕ) → hash_length hash ≤ n → hmac hash n salt secret ≡ extract hash n salt secret
unfolding extract
extract_by_hmac hash n [] secret h = sym (absent_salt_is_empty_key hash n secret h)
extract_by_hmac hash n (b ∷ bs) secret h = refl

pub next_block : (hash : List ℕ → List ℕ) (b : ℕ) (prk info previous : List ℕ) (n : ℕ) → 1 ≤ n → previous ≡ expand_block hash b prk info (n - 1)
    → hmac hash b prk (previous ++ info ++ n ∷ []) ≡ expand_block hash b prk info n
unfolding expand_block
next_block hash b prk info previous zero l e = absurd (omega arith)
next_block hash b prk info previous (suc i) l e =
    let before : suc i - 1 ≡ i = omega arith in
    let number : suc i ≡ i + 1 = omega arith in
    ap (λ (p : List ℕ). hmac hash b prk (p ++ info ++ suc i ∷ [])) (e ∙ ap (expand_block hash b prk info) before)
    ∙ ap (λ (m : ℕ). hmac hash b prk (expand_block hash b prk info i ++ info ++ m ∷ [])) number
