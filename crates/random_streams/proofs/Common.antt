-- What several proofs of this crate cite of its words, and of other crates'.
pub use Rattle.rand_chacha.specs.ChaCha.{ChaCha, key_of, next_word, of_seed, seed_of, word_at}
unfoldable pub use Rattle.rand_core.specs.Steps.{u32_at}
pub use Rattle.random_streams.specs.{Generator.IsSoundGenerator, Generator.stream_of, RandomWords.RandomStream, RandomWords.random_bytes, RandomWords.random_word, RandomWords.words_offered, RandomWords.words_used}
unfoldable pub use Rattle.random_streams.specs.RandomWords.{bytes_of_words}
pub use Rattle.std.proofs.Common.{List, [], ap, ap₂, arith, get_or, length, map, refl, replicate, slice_index, suc, sym, zero, ℕ, ◌%◌, ◌*◌, ◌++◌, ◌+◌, ◌<◌, ◌^◌, ◌∙◌, ◌∷◌, ◌≡◌, ◌≤◌}
pub use Rattle.std.specs.Int.{to_le_bytes, w32}
