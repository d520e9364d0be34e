-- HKDF: the absent salt.
use Rattle.std.proofs.Common.{Bool, List, [], ap, arith, cond, length, replicate, sym, ℕ, ◌++◌, ◌-◌, ◌∙◌, ◌≡◌, ◌≤◌}
use Rattle.crypto_specs.proofs.Common.{AbsentSaltIsEmptyKey, extract, hash_length, hmac, key_block, le-ltb, length-replicate, replicate-append-replicate, xored_with, zero_padded}

-- a key of zeros that isn't longer than a block is the block of zeros
zeros-key_block : (hash : List ℕ → List ℕ) (n k : ℕ) → k ≤ n → key_block hash n (replicate k 0) ≡ replicate n 0
unfolding key_block
zeros-key_block hash n k h =
    let key : List ℕ = replicate k 0 in
    let long : length key ≡ k = length-replicate k 0 in
    ap (λ (b : Bool). zero_padded n (cond b (hash key) key)) (le-ltb n (length key) (omega arith))
    ∙ replicate-append-replicate k (n - length key) 0 ∙ ap (λ (m : ℕ). replicate m 0) (omega arith)

hmac_of_block : (hash : List ℕ → List ℕ) (n : ℕ) (one other message : List ℕ) → key_block hash n one ≡ key_block hash n other → hmac hash n one message ≡ hmac hash n other message
unfolding hmac
hmac_of_block hash n one other message same = ap (λ (k : List ℕ). hash (xored_with 0x5c k ++ hash (xored_with 0x36 k ++ message))) same

pub absent_salt_is_empty_key : AbsentSaltIsEmptyKey
unfolding extract
absent_salt_is_empty_key hash n secret h =
    hmac_of_block hash n (replicate (hash_length hash) 0) [] secret
    (zeros-key_block hash n (hash_length hash) h ∙ sym (zeros-key_block hash n 0 (omega arith)))
