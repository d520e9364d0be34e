-- Blocks whose end is filled with zeros.
use Rattle.cipher_blocks.proofs.Common.{Bool, IsTrue, List, ap, arith, block_number, drop, drop-replicate, eqb, length, length-append, length-replicate, number_block, number_of_filled, refl, replicate, suc, sym, take, take_at, zero, ℕ, ◌++◌, ◌-◌, ◌↔◌, ◌∙◌, ◌≡◌, ◌≤◌}
use Rattle.std.proofs.lemmas.Bool.{eqb-true, eq-eqb}
use Rattle.cipher_blocks.proofs.BlockNumbers.{AreBytes, bytes-append, block_of_number}

zeros-bytes : (n : ℕ) → AreBytes (replicate n 0)
zeros-bytes zero i = omega arith
zeros-bytes (suc n) zero = omega arith
zeros-bytes (suc n) (suc i) = zeros-bytes n i

-- a piece that is written over the front of zeros
written_in_zeros : (piece block : List ℕ) → block ≡ piece ++ drop (length piece) (replicate 16 0) → block ≡ piece ++ replicate (16 - length piece) 0
written_in_zeros piece block e = e ∙ ap (λ (l : List ℕ). piece ++ l) (drop-replicate (length piece) 16 0)

-- has the number of the piece
pub written_number : (piece block : List ℕ) → block ≡ piece ++ drop (length piece) (replicate 16 0) → block_number block ≡ block_number piece
written_number piece block e = ap block_number (written_in_zeros piece block e) ∙ number_of_filled piece (16 - length piece)

-- and comes back from its number
pub written_block : (piece block : List ℕ) → length piece ≤ 16 → AreBytes piece → block ≡ piece ++ drop (length piece) (replicate 16 0)
    → number_block (block_number block) ≡ piece ++ replicate (16 - length piece) 0
written_block piece block h all e =
    let zeros : List ℕ = replicate (16 - length piece) 0 in
    let long : length (piece ++ zeros) ≡ 16 = omega (arith, length-append piece zeros, length-replicate {A = ℕ} (16 - length piece) 0) in
    ap (λ (b : List ℕ). number_block (block_number b)) (written_in_zeros piece block e)
    ∙ block_of_number (piece ++ zeros) long (bytes-append piece zeros all (zeros-bytes (16 - length piece)))

-- pieces of one length are equal where their numbers are
pub pieces_told : (a b : List ℕ) (x y : ℕ) → length a ≡ length b → number_block x ≡ a ++ replicate (16 - length a) 0 → number_block y ≡ b ++ replicate (16 - length b) 0
    → x ≡ block_number a → y ≡ block_number b → (r : Bool) → r ≡ eqb x y → IsTrue r ↔ (a ≡ b)
pieces_told a b x y same ex ey nx ny r er =
    let front : x ≡ y → a ≡ b = λ e.
    sym (take_at a (replicate (16 - length a) 0) (length a) refl) ∙ ap (take (length a)) (sym ex ∙ ap number_block e ∙ ey) ∙ take_at b (replicate (16 - length b) 0) (length a) (sym same) in
    (λ h. front (eqb-true x y (sym er ∙ h)), λ e. er ∙ eq-eqb x y (nx ∙ ap block_number e ∙ sym ny))

-- what decides of one list decides of an equal one
pub decided_of_equal : (r : Bool) (piece x y : List ℕ) → IsTrue r ↔ (piece ≡ x) → x ≡ y → IsTrue r ↔ (piece ≡ y)
decided_of_equal r piece x y told e = (λ h. told.0 h ∙ e, λ h. told.1 (h ∙ sym e))
