-- A register and a block by their numbers.
use Rattle.key_wrap.proofs.Common.{Bool, List, ap, ap₂, arith, initial_value, length, number_block, number_register, refl, replicate, sym, take, take_at, xor_number, ℕ, ◌*◌, ◌++◌, ◌+◌, ◌/◌, ◌<◌, ◌∙◌, ◌≡◌}
use Rattle.cipher_blocks.proofs.BlockNumbers.{xor_bytes_high_first}
use Rattle.cipher_blocks.proofs.HalfBlocks.{block_written}
use Rattle.std.proofs.Common.{IsTrue, bit_xor, ◌%◌, ◌^◌, ◌↔◌}
use Rattle.std.specs.Int.{to_be_bytes, w64}

pub length-number_register : (a : ℕ) → length (number_register a) ≡ 8
unfolding number_register
length-number_register a = refl

pub register_of_xor : (a t : ℕ) → number_register (bit_xor a t) ≡ xor_number (number_register a) t
unfolding number_register
register_of_xor a t = xor_bytes_high_first 8 a t

pub block_halves : (n : ℕ) → number_block n ≡ number_register (n / 2 ^ 64) ++ number_register (n % 2 ^ 64)
unfolding number_register
block_halves n = sym (block_written (replicate 16 0) n (to_be_bytes w64 (n / 2 ^ 64)) (to_be_bytes w64 (n % 2 ^ 64)) 8 refl (omega arith) refl refl)

pub block_of_two : (high low : ℕ) → low < 2 ^ 64 → number_block (high * 2 ^ 64 + low) ≡ number_register high ++ number_register low
block_of_two high low below =
    let first : (high * 2 ^ 64 + low) / 2 ^ 64 ≡ high = omega arith in
    let second : (high * 2 ^ 64 + low) % 2 ^ 64 ≡ low = omega arith in
    block_halves (high * 2 ^ 64 + low) ∙ ap₂ (λ (a b : ℕ). number_register a ++ number_register b) first second

-- the front of a block that A begins, compared with the initial value
pub compared : (a block : ℕ) (piece : List ℕ) (same : Bool) → piece ≡ initial_value → number_block block ≡ number_register a ++ number_register 0
    → IsTrue same ↔ (piece ≡ take (length piece) (number_block block)) → IsTrue same ↔ (number_register a ≡ initial_value)
compared a block piece same ep eb told =
    let front : take (length piece) (number_block block) ≡ number_register a =
    ap₂ take (ap length ep) eb ∙ take_at (number_register a) (number_register 0) 8 (length-number_register a) in
    (λ t. sym (sym ep ∙ told.0 t ∙ front), λ e. told.1 (ep ∙ sym e ∙ sym front))
