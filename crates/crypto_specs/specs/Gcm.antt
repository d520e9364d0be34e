-- GCM (SP 800-38D) over any block cipher e. Steps are those of 7.1.
use Rattle.std.specs.Prelude.{ℕ, zero, suc, ◌+◌, ◌*◌, ◌/◌, ◌%◌, ◌^◌, cond, eqb, [], ◌∷◌, ◌++◌, length, take, map, List}
use Rattle.crypto_specs.specs.{Bytes.xor_bytes, Modes.blocks, Modes.block_count, Modes.block_number, Modes.number_block, Ghash.ghash_from}

-- the blocks of bytes as numbers, zeros being added to the last one: a byte past a list's end reads as 0
unfoldable pub numbers_of : List ℕ → List ℕ
numbers_of bytes = map block_number (blocks (block_count (length bytes)) bytes)

-- the hash subkey H (step 1): the zero block enciphered
unfoldable pub hash_subkey : (List ℕ → List ℕ) → ℕ
hash_subkey e = block_number (e (number_block 0))

-- two counts of bytes as counts of bits, in 8 bytes each
abbrev pub length_block : ℕ → ℕ → ℕ
length_block a b = (8 * a) * 2 ^ 64 + 8 * b

-- GHASH of two texts, each filled with zeros to whole blocks, and of their lengths (6.4; steps 4 and 5)
unfoldable pub ghash_of : ℕ → List ℕ → List ℕ → ℕ
ghash_of h ad text = ghash_from h 0 (numbers_of ad ++ numbers_of text ++ length_block (length ad) (length text) ∷ [])

-- a block plus n, where the last 32 bits count (6.2: inc_32, n times)
unfoldable pub increased : ℕ → ℕ → ℕ
increased y n = y / 2 ^ 32 * 2 ^ 32 + (y % 2 ^ 32 + n) % 2 ^ 32

-- the pre-counter block J_0 (step 2): a nonce of 12 bytes and the number 1 in 4; of any other nonce, its GHASH with its length
unfoldable pub initial_counter_block : (List ℕ → List ℕ) → List ℕ → ℕ
initial_counter_block e nonce = cond (eqb (length nonce) 12) (increased (block_number nonce) 1) (ghash_of (hash_subkey e) [] nonce)

-- the first n blocks of the key stream from the block after y on (6.5)
unfoldable pub gcm_stream : (List ℕ → List ℕ) → ℕ → ℕ → List ℕ
gcm_stream e y zero = []
gcm_stream e y (suc n) = gcm_stream e y n ++ e (number_block (increased y (n + 1)))

-- the text enciphered, or deciphered (step 3)
unfoldable pub gcm_text : (List ℕ → List ℕ) → List ℕ → List ℕ → List ℕ
gcm_text e nonce text = xor_bytes text (gcm_stream e (initial_counter_block e nonce) (block_count (length text)))

-- the tag of t bytes, over the ciphertext (steps 4 to 6)
unfoldable pub gcm_tag : (List ℕ → List ℕ) → ℕ → List ℕ → List ℕ → List ℕ → List ℕ
gcm_tag e t nonce ad text =
    take t (xor_bytes (e (number_block (initial_counter_block e nonce))) (number_block (ghash_of (hash_subkey e) ad text)))
