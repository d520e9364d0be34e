-- The S-box of AES (FIPS 197) and its inverse. Section numbers are the standard's.
use Rattle.std.specs.{Prelude.ℕ, Prelude.zero, Prelude.suc, Prelude.◌+◌, Prelude.◌*◌, Prelude.◌%◌, Prelude.◌^◌, Int.bit_at}
use Rattle.crypto_specs.specs.Field.{gf_inverse}

-- bit i of the affine map of b (5.1.1)
abbrev pub affine_bit : ℕ → ℕ → ℕ
affine_bit b i = (bit_at b i + bit_at b ((i + 4) % 8) + bit_at b ((i + 5) % 8) + bit_at b ((i + 6) % 8) + bit_at b ((i + 7) % 8) + bit_at 0x63 i) % 2

-- the lowest n bits of the affine map of b
unfoldable pub affine_bits : ℕ → ℕ → ℕ
affine_bits b zero = 0
affine_bits b (suc n) = affine_bits b n + affine_bit b n * 2 ^ n

-- the S-box at a byte (5.1.1)
unfoldable pub sbox : ℕ → ℕ
sbox b = affine_bits (gf_inverse b) 8

-- bit i of the inverse affine map of b (5.3.2)
abbrev pub inv_affine_bit : ℕ → ℕ → ℕ
inv_affine_bit b i = (bit_at b ((i + 2) % 8) + bit_at b ((i + 5) % 8) + bit_at b ((i + 7) % 8) + bit_at 0x05 i) % 2

-- the lowest n bits of the inverse affine map of b
unfoldable pub inv_affine_bits : ℕ → ℕ → ℕ
inv_affine_bits b zero = 0
inv_affine_bits b (suc n) = inv_affine_bits b n + inv_affine_bit b n * 2 ^ n

-- the inverse S-box at a byte (5.3.2)
unfoldable pub inv_sbox : ℕ → ℕ
inv_sbox b = gf_inverse (inv_affine_bits b 8)
