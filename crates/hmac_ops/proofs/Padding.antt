-- The key's block and its pads.
use Rattle.hmac_ops.proofs.Common.{Bool, List, ap, arith, bit_xor, cases_lt, cond, false, zero_padded, inl, inr, key_block, le-ltb, length, length-append, length-map, length-replicate, lt-ltb, nat_lt, replicate, sym, take, take-map, take-replicate, true, xored_with, ℕ, ◌++◌, ◌+◌, ◌-◌, ◌<◌, ◌∙◌, ◌≡◌, ◌≤◌}
use Rattle.std.proofs.Math.Seq.{take-append-add}

-- the front of a filled list
fill_taken : (k : List ℕ) (b n : ℕ) → length k ≤ b → b ≤ n → take b (zero_padded n k) ≡ zero_padded b k
fill_taken k b n h l =
    let e : b ≡ length k + (b - length k) = omega arith in
    ap (λ (j : ℕ). take j (zero_padded n k)) e ∙ take-append-add k (replicate (n - length k) 0) (b - length k)
    ∙ ap (λ (r : List ℕ). k ++ r) (take-replicate (b - length k) (n - length k) 0 (omega arith))

pub key_block_short : (hash : List ℕ → List ℕ) (n : ℕ) (key : List ℕ) → n ≤ 128 → length key ≤ n → take n (zero_padded 128 key) ≡ key_block hash n key
unfolding key_block
key_block_short hash n key b l =
    let test : nat_lt n (length key) ≡ false = le-ltb n (length key) l in
    fill_taken key n 128 l b ∙ ap (λ (t : Bool). zero_padded n (cond t (hash key) key)) (sym test)

pub key_block_long : (hash : List ℕ → List ℕ) (n : ℕ) (key digest : List ℕ) → n ≤ 128 → n < length key → digest ≡ hash key → length digest ≤ n → take n (zero_padded 128 digest) ≡ key_block hash n key
unfolding key_block
key_block_long hash n key digest b l e d =
    let test : nat_lt n (length key) ≡ true = lt-ltb n (length key) l in
    fill_taken digest n 128 d b ∙ ap (zero_padded n) e ∙ ap (λ (t : Bool). zero_padded n (cond t (hash key) key)) (sym test)

-- a pad is a block
length-filled : (n : ℕ) (k : List ℕ) → length k ≤ n → length (zero_padded n k) ≡ n
length-filled n k h = omega (arith, length-append k (replicate (n - length k) 0), length-replicate {A = ℕ} (n - length k) 0)

length-key_block : (hash : List ℕ → List ℕ) (n : ℕ) (key : List ℕ) → ((m : List ℕ) → length (hash m) ≤ n) → length (key_block hash n key) ≡ n
unfolding key_block
length-key_block hash n key fits = elim (cases_lt n (length key)) [
  | inl long ↦ ap (λ (t : Bool). length (zero_padded n (cond t (hash key) key))) (lt-ltb n (length key) long) ∙ length-filled n (hash key) (fits key)
  | inr short ↦ ap (λ (t : Bool). length (zero_padded n (cond t (hash key) key))) (le-ltb n (length key) short) ∙ length-filled n key short
]

pub length-pad : (hash : List ℕ → List ℕ) (n : ℕ) (key : List ℕ) (c : ℕ) → ((m : List ℕ) → length (hash m) ≤ n) → length (xored_with c (key_block hash n key)) ≡ n
length-pad hash n key c fits = length-map (key_block hash n key) (λ (b : ℕ). bit_xor b c) ∙ length-key_block hash n key fits

-- the front of a block, xored
pub pad_of : (n : ℕ) (front block pad : List ℕ) (c : ℕ) → take n block ≡ front → pad ≡ xored_with c block → take n pad ≡ xored_with c front
pad_of n front block pad c eb ep = ap (take n) ep ∙ take-map (λ b. bit_xor b c) n block ∙ ap (xored_with c) eb
