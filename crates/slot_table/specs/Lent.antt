-- What a table gives out.
use Rattle.std.specs.Prelude.{ℕ}
use Rattle.secret_bytes.specs.Buffer.{Buffer}

-- a slot that waits for its key
pub record Reserved : Type 0 where
  pub slot : ℕ

-- a reading of a key: the slot, the key's creation number, and a copy of its bytes
pub record Reading : Type 0 where
  pub slot : ℕ
  pub creation : ℕ
  pub buffer : Buffer
