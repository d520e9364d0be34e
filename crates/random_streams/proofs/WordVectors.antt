-- Key streams that others computed, as the definition gives them.
use Rattle.random_streams.proofs.Common.{[], bytes_of_words, random_bytes, random_word, refl, replicate, u32_at, ◌*◌, ◌+◌, ◌^◌, ◌∷◌, ◌≡◌}
use Rattle.rand_chacha.specs.Block.{quarter_round, column_round, diagonal_round, double_rounds, block_word}

-- RFC 8439, A.1, test vector 1: the fifth byte uses a second word
first_bytes : random_bytes (replicate 32 0) 0 0 5 ≡ 0x76 ∷ 0xb8 ∷ 0xe0 ∷ 0xad ∷ 0xa0 ∷ []
unfolding bytes_of_words u32_at quarter_round column_round diagonal_round double_rounds block_word
first_bytes = refl

-- the first word of the second block of caller 3 under the seed 00 01 .. 1f: the bytes 57 73 74 7a
second_block : random_word (0 ∷ 1 ∷ 2 ∷ 3 ∷ 4 ∷ 5 ∷ 6 ∷ 7 ∷ 8 ∷ 9 ∷ 10 ∷ 11 ∷ 12 ∷ 13 ∷ 14 ∷ 15 ∷ 16 ∷ 17 ∷ 18 ∷ 19 ∷ 20 ∷ 21 ∷ 22 ∷ 23 ∷ 24 ∷ 25 ∷ 26 ∷ 27 ∷ 28 ∷ 29 ∷ 30 ∷ 31 ∷ []) 3 16 ≡ 0x7a747357
unfolding u32_at quarter_round column_round diagonal_round double_rounds block_word
second_block = refl

-- RFC 8439, 2.3.2: its nonce's first word is here the upper half of a 64-bit counter
upper_counter : random_word (0 ∷ 1 ∷ 2 ∷ 3 ∷ 4 ∷ 5 ∷ 6 ∷ 7 ∷ 8 ∷ 9 ∷ 10 ∷ 11 ∷ 12 ∷ 13 ∷ 14 ∷ 15 ∷ 16 ∷ 17 ∷ 18 ∷ 19 ∷ 20 ∷ 21 ∷ 22 ∷ 23 ∷ 24 ∷ 25 ∷ 26 ∷ 27 ∷ 28 ∷ 29 ∷ 30 ∷ 31 ∷ []) 0x4a000000 (16 * (1 + 0x09000000 * 2 ^ 32)) ≡ 0xe4e7f110
unfolding u32_at quarter_round column_round diagonal_round double_rounds block_word
upper_counter = refl
