-- The product of blocks, four bits at a time.
use Rattle.std.specs.{Prelude.◌≡◌, Prelude.ℕ, Prelude.zero, Prelude.suc, Prelude.◌+◌, Prelude.◌*◌, Prelude.◌^◌, Prelude.List, Prelude.map, List.range_with_len}
use Rattle.crypto_specs.specs.{Ghash.sum_of_multiples, Prelude.times_x}

-- the product of h and each polynomial of degree below 4, whose highest bit is the coefficient of x^0
unfoldable pub products_of : ℕ → List ℕ
products_of h = map (λ g. sum_of_multiples 4 g h) (range_with_len 0 16)

-- the product of v and x^4
abbrev pub times_x4 : ℕ → ℕ
times_x4 v = times_x (times_x (times_x (times_x v)))

-- the product of v and x^n
unfoldable pub shifted : ℕ → ℕ → ℕ
shifted zero v = v
shifted (suc n) v = shifted n (times_x v)

-- the products of h, and those of the product of h and x^64
pub record AreProducts (near far : List ℕ) (h : ℕ) : Type 0 where
  pub near_are : near ≡ products_of h
  pub far_are : far ≡ products_of (shifted 64 h)

-- a block of two halves
abbrev pub joined_halves : ℕ → ℕ → ℕ
joined_halves high low = high * 2 ^ 64 + low
