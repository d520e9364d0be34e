-- PBKDF2 (RFC 8018, 5.2) with HMAC over any hash function, whose blocks have n bytes.
use Rattle.std.specs.{Prelude.ℕ, Prelude.zero, Prelude.suc, Prelude.◌+◌, Prelude.◌-◌, Prelude.◌/◌, Prelude.List, Prelude.[], Prelude.◌∷◌, Prelude.◌++◌, Prelude.take, List.fold, Int.w32, Int.to_be_bytes}
use Rattle.crypto_specs.specs.{Bytes.xor_bytes, Hmac.hmac, Hkdf.hash_length}

-- u and what follows it, c in all: each is the code of the one before under the password
unfoldable pub chain : (List ℕ → List ℕ) → ℕ → List ℕ → List ℕ → ℕ → List (List ℕ)
chain hash n password u zero = []
chain hash n password u (suc c) = u ∷ chain hash n password (hmac hash n password u) c

-- U_1, .., U_c of block i (step 3), where i is below 2 ^ 32
abbrev pub turns : (List ℕ → List ℕ) → ℕ → List ℕ → List ℕ → ℕ → ℕ → List (List ℕ)
turns hash n password salt c i = chain hash n password (hmac hash n password (salt ++ to_be_bytes w32 i)) c

-- the sum of lists that are as long as one another
unfoldable pub xor_all : List (List ℕ) → List ℕ
xor_all [] = []
xor_all (u ∷ us) = fold xor_bytes u us

-- T_i, of c turns: F (step 3)
unfoldable pub pbkdf2_block : (List ℕ → List ℕ) → ℕ → List ℕ → List ℕ → ℕ → ℕ → List ℕ
pbkdf2_block hash n password salt c i = xor_all (turns hash n password salt c i)

-- T_1, .., T_i one after another (step 4)
unfoldable pub pbkdf2_blocks : (List ℕ → List ℕ) → ℕ → List ℕ → List ℕ → ℕ → ℕ → List ℕ
pbkdf2_blocks hash n password salt c zero = []
pbkdf2_blocks hash n password salt c (suc i) = pbkdf2_blocks hash n password salt c i ++ pbkdf2_block hash n password salt c (i + 1)

-- the first l bytes of the derived key (steps 2 to 5)
unfoldable pub pbkdf2 : (List ℕ → List ℕ) → ℕ → List ℕ → List ℕ → ℕ → ℕ → List ℕ
pbkdf2 hash n password salt c l =
    let h : ℕ = hash_length hash in
    take l (pbkdf2_blocks hash n password salt c ((l + h - 1) / h))
