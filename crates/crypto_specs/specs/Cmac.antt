-- CMAC (SP 800-38B) over any block cipher e.
use Rattle.std.specs.{Prelude.ℕ, Prelude.◌-◌, Prelude.◌*◌, Prelude.◌%◌, Prelude.◌^◌, Prelude.max, Prelude.cond, Prelude.nat_lt, Prelude.eqb, Prelude.bit_xor, Prelude.List, Prelude.[], Prelude.◌∷◌, Prelude.◌++◌, Prelude.length, Prelude.drop, Prelude.replicate, List.fold}
use Rattle.crypto_specs.specs.{Bytes.xor_bytes, Modes.blocks, Modes.block_count, Modes.block_number, Modes.number_block}

-- a block as a number, shifted left by one bit; where its first bit is 1, R_128 is added (6.1)
abbrev pub doubled : ℕ → ℕ
doubled l = cond (nat_lt l (2 ^ 127)) (2 * l) (bit_xor (2 * l % 2 ^ 128) 0x87)

-- the subkey K1 (6.1): the zero block enciphered, and doubled
unfoldable pub subkey1 : (List ℕ → List ℕ) → List ℕ
subkey1 e = number_block (doubled (block_number (e (number_block 0))))

-- the subkey K2 (6.1): K1 doubled
unfoldable pub subkey2 : (List ℕ → List ℕ) → List ℕ
subkey2 e = number_block (doubled (block_number (subkey1 e)))

-- the last block M_n, from what is left (6.2, step 4): whole, with K1 added; or filled by the bit 1 and zeros, with K2 added
unfoldable pub last_block : (List ℕ → List ℕ) → List ℕ → List ℕ
last_block e left =
    cond (eqb (length left) 16) (xor_bytes left (subkey1 e))
    (xor_bytes (left ++ 0x80 ∷ replicate (15 - length left) 0) (subkey2 e))

-- C_i from C_(i-1) and M_i (6.2, step 6)
abbrev pub chain_step : (List ℕ → List ℕ) → List ℕ → List ℕ → List ℕ
chain_step e y block = e (xor_bytes y block)

-- C_n of the blocks M_1, .., M_n, where C_0 is the zero block (6.2, steps 5 and 6)
unfoldable pub chained : (List ℕ → List ℕ) → List (List ℕ) → List ℕ
chained e bs = fold (chain_step e) (replicate 16 0) bs

-- how many blocks of n bytes stand before the last one (6.2, step 2): an empty message has one block, which is incomplete
abbrev pub front_count : ℕ → ℕ
front_count n = max 1 (block_count n) - 1

-- the whole tag of a message (6.2); a tag of t bytes is its first t
unfoldable pub cmac : (List ℕ → List ℕ) → List ℕ → List ℕ
cmac e message =
    let n : ℕ = front_count (length message) in
    chained e (blocks n message ++ last_block e (drop (16 * n) message) ∷ [])
