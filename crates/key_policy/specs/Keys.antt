-- AES keys, as a test.
use Rattle.std.specs.Prelude.{ℕ, Bool, ◌==◌, ◌||◌, List, length}

-- whether the bytes are an AES key, which a wiped one isn't
abbrev pub is_key : List ℕ → Bool
is_key key = length key == 16 || (length key == 24 || length key == 32)
