-- The key stream of a block cipher e over counter blocks.
use Rattle.std.specs.Prelude.{ℕ, suc, ◌+◌, ◌/◌, ◌%◌, ◌^◌, [], ◌∷◌, bit_xor, slice_index, List}
use Rattle.crypto_specs.specs.Prelude.{number_block, increased}
use Rattle.aead_streams.specs.{declared.counter_width.CounterWidth.CounterWidth, declared.counter_width.CounterWidth.TheVariants.Whole, declared.counter_width.CounterWidth.TheVariants.Low32}

-- counter block n, as a number, where block 0 is y
abbrev pub counter_at : CounterWidth → ℕ → ℕ → ℕ
counter_at Whole y n = (y + n) % 2 ^ 128
counter_at Low32 y n = increased y n

-- block i of the stream
unfoldable pub stream_block : (List ℕ → List ℕ) → CounterWidth → ℕ → ℕ → List ℕ
stream_block e width start i = e (number_block (counter_at width start i))

-- byte j of the stream
unfoldable pub byte_of_stream : (List ℕ → List ℕ) → CounterWidth → ℕ → ℕ → ℕ
byte_of_stream e width start j = slice_index (stream_block e width start (j / 16)) (j % 16)

-- a text that begins at byte n of the stream, xored with it
unfoldable pub text_xor : (List ℕ → List ℕ) → CounterWidth → ℕ → ℕ → List ℕ → List ℕ
text_xor e width start n [] = []
text_xor e width start n (x ∷ xs) = bit_xor x (byte_of_stream e width start n) ∷ text_xor e width start (suc n) xs
