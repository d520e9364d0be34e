-- The tables hold the S-box, its inverse and the round constants.
use Rattle.aes_core.proofs.Common.{INV_SBOX, SBOX, affine_bits, arith, div_below, holds_values, inv_affine_bits, inv_sbox, inverse_from, power_of_x, refl, sbox, slice_index, sum_of_shifts, true, value_of, ℕ, ◌*◌, ◌-◌, ◌/◌, ◌<◌, ◌≡◌, ◌≤◌}
use Rattle.aes_core.specs.declared.schedule.TheConstants.{ROUND_CONSTANTS}

sbox-test : holds_values sbox 0 SBOX ≡ true
unfolding sum_of_shifts inverse_from affine_bits sbox
sbox-test = refl

inv_sbox-test : holds_values inv_sbox 0 INV_SBOX ≡ true
unfolding sum_of_shifts inverse_from inv_affine_bits inv_sbox
inv_sbox-test = refl

constants-test : holds_values power_of_x 0 ROUND_CONSTANTS ≡ true
unfolding power_of_x
constants-test = refl

pub sbox_at : (x : ℕ) → x < 256 → slice_index SBOX x ≡ sbox x
sbox_at x h = value_of sbox SBOX x sbox-test h

pub inv_sbox_at : (x : ℕ) → x < 256 → slice_index INV_SBOX x ≡ inv_sbox x
inv_sbox_at x h = value_of inv_sbox INV_SBOX x inv_sbox-test h

pub round_constant_at : (words i : ℕ) → 4 ≤ words → i < 11 * words → words ≤ i → slice_index ROUND_CONSTANTS (i / words - 1) ≡ power_of_x (i / words - 1)
round_constant_at words i low h k =
    let below : i / words < 11 = div_below i words 11 (omega arith) h in
    value_of power_of_x ROUND_CONSTANTS (i / words - 1) constants-test (omega arith)
