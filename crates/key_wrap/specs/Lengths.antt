-- The lengths of keys, in bytes.
use Rattle.std.specs.Prelude.{ℕ, ◌%◌, ◌≡◌, ◌≤◌}

-- a key that is wrapped has n groups of 8 bytes, and n is at least 2 (RFC 3394, 2); more than 128 are not offered
pub record IsKeyDataLength (n : ℕ) : Type 0 where
  pub whole : n % 8 ≡ 0
  pub some : 16 ≤ n
  pub limit : n ≤ 1024
