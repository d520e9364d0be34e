-- What the generator in a Stream stands for.
use Rattle.std.specs.Prelude.{◌≡◌, ◌≤◌}
use Rattle.rand_chacha.specs.ChaCha.{ChaCha, key_of, seed_of}
use Rattle.random_streams.specs.RandomWords.{RandomStream, words_offered}

abbrev pub stream_of : ChaCha → RandomStream
stream_of g = record { seed = seed_of g.key; caller = g.stream; place = g.word_pos }

-- the key is that of a seed, and no more words were drawn than are offered
pub record IsSoundGenerator (g : ChaCha) : Type 0 where
  pub key : g.key ≡ key_of (seed_of g.key)
  pub place : g.word_pos ≤ words_offered
