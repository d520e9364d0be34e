use Rattle.ghash.proofs.Common.{bit_xor, joined_halves, products_of, shifted, sum_of_multiples, ℕ, ◌*◌, ◌/◌, ◌^◌, ◌≡◌}
use Rattle.ghash.proofs.groups.multiply_by.Given as goal

abbrev pub invariant-bytes : goal.invariant-bytes
invariant-bytes l =
    (h : ℕ) → l.near ≡ products_of h → l.far ≡ products_of (shifted 64 h)
    → joined_halves l.sum.high l.sum.low ≡ bit_xor (sum_of_multiples (8 * l.n) (l.x / 2 ^ 64) h) (sum_of_multiples (8 * l.n) l.x (shifted 64 h))
