-- Bytes that are all zeros, found by the bits that any of them has.
use Rattle.key_cells.proofs.Common.{List, ap, arith, cases_eq, ext_get_or, get_or, get_or-replicate, length, length-replicate, refl, replicate, sym, ℕ, ⊎_elim, ◌+◌, ◌<◌, ◌∙◌, ◌≡◌}
use Rattle.std.specs.{Int.Bits.bit_or, Prelude.◌↔◌}
use Rattle.std.proofs.lemmas.Nat.{le_or_l, le_or_r}

-- there are no such bits exactly where the first so many bytes are zeros
abbrev pub AreBitsOf : ℕ → ℕ → List ℕ → Type 0
AreBitsOf bits count bytes = (bits ≡ 0) ↔ ((i : ℕ) → i < count → get_or bytes i 0 ≡ 0)

pub no_bits : (bytes : List ℕ) → AreBitsOf 0 0 bytes
no_bits bytes = (λ none i less. absurd (omega (arith, less)), λ all. refl)

pub more_bits : (bits byte count : ℕ) (bytes : List ℕ) → get_or bytes count 0 ≡ byte → AreBitsOf bits count bytes → AreBitsOf (bit_or bits byte) (count + 1) bytes
more_bits bits byte count bytes here are = (forth, back)
  where
    forth : bit_or bits byte ≡ 0 → (i : ℕ) → i < count + 1 → get_or bytes i 0 ≡ 0
    forth none i less = ⊎_elim
        (λ is. ap (λ n. get_or bytes n 0) is ∙ here ∙ omega (arith, le_or_r bits byte, none))
        (λ differs. are.0 (omega (arith, le_or_l bits byte, none)) i (omega (arith, less, differs)))
        (cases_eq i count)

    back : ((i : ℕ) → i < count + 1 → get_or bytes i 0 ≡ 0) → bit_or bits byte ≡ 0
    back all =
        let none : bits ≡ 0 = are.1 (λ i less. all i (omega (arith, less))) in
        let zero_byte : byte ≡ 0 = sym here ∙ all count (omega arith) in
        ap (λ n. bit_or n byte) none ∙ ap (bit_or 0) zero_byte

pub all_zeros : (bits count : ℕ) (bytes : List ℕ) → count ≡ length bytes → AreBitsOf bits count bytes → (bits ≡ 0) ↔ (bytes ≡ replicate (length bytes) 0)
all_zeros bits count bytes whole are = (forth, back)
  where
    forth : bits ≡ 0 → bytes ≡ replicate (length bytes) 0
    forth none = ext_get_or 0 bytes (replicate (length bytes) 0) (sym (length-replicate (length bytes) 0))
        (λ i within. are.0 none i (omega (arith, within, whole)) ∙ sym (get_or-replicate (length bytes) i 0 0 within))

    back : bytes ≡ replicate (length bytes) 0 → bits ≡ 0
    back zeros = are.1 (λ i within. ap (λ (list : List ℕ). get_or list i 0) zeros ∙ get_or-replicate (length bytes) i 0 0 (omega (arith, within, whole)))
