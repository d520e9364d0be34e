-- HKDF (RFC 5869) over any hash function, whose blocks have n bytes.
use Rattle.std.specs.Prelude.{ℕ, zero, suc, ◌+◌, ◌-◌, ◌/◌, List, [], ◌∷◌, ◌++◌, length, take, replicate}
use Rattle.crypto_specs.specs.Hmac.{hmac}

-- HashLen, the bytes of a digest
abbrev pub hash_length : (List ℕ → List ℕ) → ℕ
hash_length hash = length (hash [])

-- an absent salt is HashLen zeros (2.2)
abbrev pub salt_or_zeros : (List ℕ → List ℕ) → List ℕ → List ℕ
salt_or_zeros hash [] = replicate (hash_length hash) 0
salt_or_zeros hash (b ∷ bs) = b ∷ bs

-- the pseudorandom key PRK of a secret (2.2)
unfoldable pub extract : (List ℕ → List ℕ) → ℕ → List ℕ → List ℕ → List ℕ
extract hash n salt secret = hmac hash n (salt_or_zeros hash salt) secret

-- T(i), where i is at most 255 (2.3)
unfoldable pub expand_block : (List ℕ → List ℕ) → ℕ → List ℕ → List ℕ → ℕ → List ℕ
expand_block hash n prk info zero = []
expand_block hash n prk info (suc i) = hmac hash n prk (expand_block hash n prk info i ++ info ++ (i + 1) ∷ [])

-- T(1), .., T(i) one after another (2.3)
unfoldable pub expand_blocks : (List ℕ → List ℕ) → ℕ → List ℕ → List ℕ → ℕ → List ℕ
expand_blocks hash n prk info zero = []
expand_blocks hash n prk info (suc i) = expand_blocks hash n prk info i ++ expand_block hash n prk info (i + 1)

-- the first l bytes of keying material (2.3)
unfoldable pub expand : (List ℕ → List ℕ) → ℕ → List ℕ → List ℕ → ℕ → List ℕ
expand hash n prk info l =
    let h : ℕ = hash_length hash in
    take l (expand_blocks hash n prk info ((l + h - 1) / h))
