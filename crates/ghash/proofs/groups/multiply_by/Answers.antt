use Rattle.ghash.proofs.{Common.List, Common.ap, Common.arith, Common.bit_xor, Common.joined_halves, Common.products_of, Common.refl, Common.shifted, Common.slice_index, Common.sum_of_multiples, Common.ℕ, Common.◌%◌, Common.◌*◌, Common.◌+◌, Common.◌/◌, Common.◌<◌, Common.◌^◌, Common.◌∙◌, Common.◌≡◌, GroupProducts.halves_summed, GroupProducts.next_groups, GroupProducts.product_in}
use Rattle.ghash.proofs.Halves.{byte_is, low_group, high_group}
use Rattle.ghash.proofs.groups.multiply_by.Goals as goal

-- the sum over n bits of either half
abbrev sums : ℕ → ℕ → ℕ → ℕ
sums n x h = bit_xor (sum_of_multiples n (x / 2 ^ 64) h) (sum_of_multiples n x (shifted 64 h))

pub bytes-init : goal.bytes-init
unfolding sum_of_multiples
bytes-init c = λ h is_near is_far. refl

pub bytes-preserved : goal.bytes-preserved
bytes-preserved c = λ h is_near is_far.
    let x = c.args.x in
    let n : ℕ = 8 * c.bytes.n in
    let above : ℕ = x / 2 ^ 64 in
    let far : ℕ = shifted 64 h in
    let high : ℕ = c.of-halves.result.high / 2 ^ n % 256 in
    let low : ℕ = c.of-halves.result.low / 2 ^ n % 256 in
    let half : ℕ = joined_halves c.times_x4_plus-half.result.high c.times_x4_plus-half.result.low in
    let is_high : high ≡ above / 2 ^ n % 256 = byte_is c.of-halves.result.high above c.bytes.n (omega arith) (omega (arith, c.of-halves.ensures)) in
    let is_low : low ≡ x / 2 ^ n % 256 = byte_is c.of-halves.result.low x c.bytes.n (omega arith) (omega (arith, c.of-halves.ensures)) in
    let entry : (t : List ℕ) (g i j : ℕ) → t ≡ products_of g → i ≡ j → j < 16 → slice_index t i ≡ sum_of_multiples 4 j g =
    λ t g i j is_t e l. ap (slice_index t) e ∙ product_in t g j is_t l in
    let is_half : half ≡ sums (n + 4) x h =
    c.times_x4_plus-half.ensures
    ∙ next_groups (joined_halves c.bytes.sum.high c.bytes.sum.low) above h x far n _ _ (c.bytes.invariant h is_near is_far)
    (entry c.args.near.now h (high % 16) (above / 2 ^ n % 16) is_near (low_group high above n is_high) (omega arith))
    (entry c.args.far.now far (low % 16) (x / 2 ^ n % 16) is_far (low_group low x n is_low) (omega arith)) in
    c.times_x4_plus-whole.ensures
    ∙ next_groups half above h x far (n + 4) _ _ is_half
    (entry c.args.near.now h (high / 16) (above / 2 ^ (n + 4) % 16) is_near (high_group high above n is_high) (omega arith))
    (entry c.args.far.now far (low / 16) (x / 2 ^ (n + 4) % 16) is_far (high_group low x n is_low) (omega arith))
    ∙ ap (λ (k : ℕ). sums k x h) (omega arith)

pub returns : goal.returns
returns c = λ h is_near is_far.
    let x = c.args.x in
    c.joined.ensures ∙ c.bytes.invariant h is_near is_far ∙ ap (λ (n : ℕ). sums n x h) (omega (arith, c.bytes.auto.n-end)) ∙ halves_summed x h
