-- How much a turn draws.
use Rattle.std.specs.Prelude.{ℕ, ◌≡◌, ◌≤◌}
use Rattle.random_streams.specs.RandomWords.{RandomStream, drawn_from}

-- 16 random bytes at most
abbrev pub DrawsFew : (before after : RandomStream) → Type 0
DrawsFew before after = (n : ℕ) × (n ≤ 16) × (after ≡ drawn_from before n)
