-- A message of 96 bytes is two blocks.
use Rattle.hmac_ops.proofs.Common.{List, ap, append_assoc, ap₂, arith, compress, digest_bytes, drop, drop_at, hash_after, initial_hash_256, length, length-append, padded_message, padding, sha256, sym, take, take_all, take_at, ℕ, ◌++◌, ◌+◌, ◌/◌, ◌∙◌, ◌≡◌}

pub hash_after-two : (h x y : List ℕ) → length x ≡ 64 → length y ≡ 64 → hash_after h (x ++ y) 2 ≡ compress (compress h x) y
unfolding hash_after
hash_after-two h x y lx ly =
    let second : take 64 (drop 64 (x ++ y)) ≡ y = ap (take 64) (drop_at x y 64 lx) ∙ take_all 64 y (omega arith) in
    ap₂ (λ (a b : List ℕ). compress (compress h a) b) (take_at x y 64 lx) second

-- the message with its padding
padded_of_96 : (block rest : List ℕ) → length block ≡ 64 → length rest ≡ 32 → padded_message (block ++ rest) ≡ block ++ (rest ++ padding 96)
padded_of_96 block rest lb lr =
    let long : length (block ++ rest) ≡ 96 = omega (arith, length-append block rest) in
    ap (λ (n : ℕ). (block ++ rest) ++ padding n) long ∙ append_assoc block rest (padding 96)

pub sha256-two_blocks : (block rest : List ℕ) → length block ≡ 64 → length rest ≡ 32
    → digest_bytes (compress (compress initial_hash_256 block) (rest ++ padding 96)) 8 ≡ sha256 (block ++ rest)
unfolding sha256
sha256-two_blocks block rest lb lr =
    let second : List ℕ = rest ++ padding 96 in
    let padded = padded_of_96 block rest lb lr in
    let ls : length second ≡ 64 = length-append rest (padding 96) ∙ ap (λ (n : ℕ). n + 32) lr in
    let count : length (block ++ second) / 64 ≡ 2 = omega (arith, length-append block second) in
    sym (ap (λ (h : List ℕ). digest_bytes h 8)
    (ap (λ (p : List ℕ). hash_after initial_hash_256 p (length p / 64)) padded
    ∙ ap (hash_after initial_hash_256 (block ++ second)) count
    ∙ hash_after-two initial_hash_256 block second lb ls))
