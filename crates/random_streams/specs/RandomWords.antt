-- The random words of a caller: the words of ChaCha20 (RFC 8439) under the seed as its key, with a
-- 64-bit block counter and the caller's number as the 64-bit stream number, as rand_chacha states
-- them. A place is the number of words before it.
use Rattle.std.specs.{Prelude.ℕ, Prelude.zero, Prelude.suc, Prelude.◌+◌, Prelude.◌/◌, Prelude.◌^◌, Prelude.List, Prelude.[], Prelude.◌++◌, Prelude.take, Int.w32, Int.to_le_bytes}
use Rattle.rand_chacha.specs.ChaCha.{word_at, key_of}

-- the word at place n of a stream; ChaCha20 has ten double rounds
abbrev pub random_word : List ℕ → ℕ → ℕ → ℕ
random_word seed stream n = word_at 10 (key_of seed) stream n

-- the bytes of n words from a place on, the lowest byte of each first
unfoldable pub bytes_of_words : List ℕ → ℕ → ℕ → ℕ → List ℕ
bytes_of_words seed stream place zero = []
bytes_of_words seed stream place (suc n) = bytes_of_words seed stream place n ++ to_le_bytes w32 (random_word seed stream (place + n))

-- how many words n bytes use
abbrev pub words_used : ℕ → ℕ
words_used n = (n + 3) / 4

-- n bytes from a place on: what the last word has over is dropped
abbrev pub random_bytes : List ℕ → ℕ → ℕ → ℕ → List ℕ
random_bytes seed stream place n = take n (bytes_of_words seed stream place (words_used n))

-- how many words a stream offers
abbrev pub words_offered : ℕ
words_offered = 2 ^ 60

-- what a contract sees of a caller's stream: the seed, the caller's number, and the place of the
-- next word
pub record RandomStream : Type 0 where
  pub seed : List ℕ
  pub caller : ℕ
  pub place : ℕ

-- a stream's next bytes, as many as are asked for
abbrev pub next_bytes : RandomStream → ℕ → List ℕ
next_bytes stream n = random_bytes stream.seed stream.caller stream.place n

-- the stream once the words of n bytes are drawn
abbrev pub drawn_from : RandomStream → ℕ → RandomStream
drawn_from stream n = record stream { place = stream.place + words_used n }
