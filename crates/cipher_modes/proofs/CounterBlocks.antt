-- The counter of CTR, and its key stream block by block.
use Rattle.cipher_modes.proofs.Common.{List, add-one, ap, arith, block_number, counter_block, key_stream, number_block, refl, ℕ, ◌%◌, ◌++◌, ◌+◌, ◌<◌, ◌^◌, ◌≡◌}

pub key_stream_next : (e : List ℕ → List ℕ) (iv : List ℕ) (n : ℕ) → key_stream e iv (n + 1) ≡ key_stream e iv n ++ e (counter_block iv n)
unfolding key_stream
key_stream_next e iv n = rw add-one refl

-- the counter's bytes are the counter block
pub counter_block_is : (iv : List ℕ) (n c : ℕ) → c ≡ (block_number iv + n) % 2 ^ 128 → number_block c ≡ counter_block iv n
unfolding counter_block
counter_block_is iv n c e = ap number_block e

pub counter_next : (c v n : ℕ) → c ≡ (v + n) % 2 ^ 128 → (c + 1) % 2 ^ 128 ≡ (v + (n + 1)) % 2 ^ 128
counter_next c v n e = omega arith

pub counter_start : (iv : List ℕ) (c : ℕ) → c ≡ block_number iv → c < 2 ^ 128 → c ≡ (block_number iv + 0) % 2 ^ 128
counter_start iv c e h = omega arith
