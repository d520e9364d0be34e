-- What the fields of an AesKey stand for.
use Rattle.std.specs.Prelude.{◌≡◌, ℕ, ◌+◌, ◌-◌, ◌*◌, ◌<◌, ◌≤◌, List, [], ◌∷◌, take, replicate, slice_index, ◌⊎◌}
use Rattle.crypto_specs.specs.Prelude.{IsKey, key_schedule, round_count}
use Rattle.aes_core.specs.Words.{word_bytes, inv_mixed_word}

-- the bytes of the key: the schedule begins with its words
abbrev pub key_of : ℕ → List ℕ → List ℕ
key_of rounds schedule = word_bytes (take (rounds - 6) schedule)

-- the schedule of the equivalent inverse cipher (FIPS 197, 5.3.5): InvMixColumns of each round key but
-- the first and the last
pub record IsInvScheduleOf (rounds : ℕ) (schedule inverse : List ℕ) : Type 0 where
  pub outer : (i : ℕ) → (i < 4) ⊎ (4 * rounds ≤ i) → slice_index inverse i ≡ slice_index schedule i
  pub inner : (i : ℕ) → 4 ≤ i → i < 4 * rounds → word_bytes (slice_index inverse i ∷ []) ≡ inv_mixed_word (word_bytes (slice_index schedule i ∷ []))

-- the schedules of a key, as far as its rounds go
pub record IsScheduleOf (rounds : ℕ) (schedule inverse key : List ℕ) : Type 0 where
  pub is_key : IsKey key
  pub count : rounds ≡ round_count key
  pub words : word_bytes (take (4 * (rounds + 1)) schedule) ≡ key_schedule key
  pub inv_words : IsInvScheduleOf rounds schedule inverse

-- a wiped key has no rounds, and its schedules are zeros
pub record IsWipedKey (rounds : ℕ) (schedule inverse : List ℕ) : Type 0 where
  pub none : rounds ≡ 0
  pub zeros : schedule ≡ replicate 60 0
  pub inv_zeros : inverse ≡ replicate 60 0

abbrev pub IsReadyOrWiped : ℕ → List ℕ → List ℕ → Type 0
IsReadyOrWiped rounds schedule inverse = IsScheduleOf rounds schedule inverse (key_of rounds schedule) ⊎ IsWipedKey rounds schedule inverse
