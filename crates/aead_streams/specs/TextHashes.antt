-- What a hash of a text taken in pieces stands for.
use Rattle.std.specs.Prelude.{◌≡◌, ℕ, ◌*◌, ◌≤◌, ◌<◌, List, [], map, length, drop}
use Rattle.crypto_specs.specs.Prelude.{ghash_from, blocks, block_number}
use Rattle.aead_streams.specs.declared.text_hash.TextHash.{TextHash}

-- the value, from y on and under the hash key h, has the first blocks of the text, and the buffer what is left
pub record HasTaken (s : TextHash) (h y : ℕ) (text : List ℕ) : Type 0 where
  pub count : ℕ
  pub key : s.ghash.0 ≡ h
  pub value : s.ghash.1 ≡ ghash_from h y (map block_number (blocks count text))
  pub place : 16 * count ≤ length text
  pub left : s.buffer ≡ drop (16 * count) text
  pub short : length s.buffer < 16

-- hash key, value and buffer are zeros
pub record IsClearTextHash (s : TextHash) : Type 0 where
  pub ghash : s.ghash ≡ (0, 0)
  pub buffer : s.buffer ≡ []
