-- Keys and algorithms that an operation takes, as tests.
use Rattle.std.specs.Prelude.{ℕ, Bool, ◌&&◌, List}
use Rattle.alg_encoding.specs.Table.{permits_length}
use Rattle.key_policy.specs.{declared.algorithms.AeadAlgorithm.AeadAlgorithm, Keys.is_key, Names.tag_lengths}

-- a key and an AEAD to compute with
abbrev pub can_compute : AeadAlgorithm → List ℕ → Bool
can_compute aead key = is_key key && permits_length (tag_lengths aead.kind) aead.tag_length
