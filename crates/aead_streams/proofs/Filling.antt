-- Blocks whose end is zeros.
use Rattle.aead_streams.proofs.Common.{List, ap, arith, block_number, drop, drop-replicate, drop_at, length, length-append, length-take, number_of_filled, replicate, sym, take, take-append-drop, ℕ, ◌++◌, ◌+◌, ◌-◌, ◌∙◌, ◌≡◌, ◌≤◌}
use Rattle.aead_streams.specs.Filled.{HasZerosPast}

-- the bytes in use have the number of the block
pub number_of_used : (used : ℕ) (block : List ℕ) → HasZerosPast used block → block_number block ≡ block_number (take used block)
number_of_used used block h =
    let filled : block ≡ take used block ++ replicate (16 - used) 0 =
    sym (take-append-drop used block) ∙ ap (λ (l : List ℕ). take used block ++ l) h.rest in
    ap block_number filled ∙ number_of_filled (take used block) (16 - used)

-- a piece that fits is put into the zeros
pub put_in : (used n : ℕ) (block piece new : List ℕ) → used + n ≤ 16 → length piece ≡ n → length block ≡ 16
    → new ≡ take used block ++ piece ++ drop (length piece) (drop used block) → HasZerosPast used block → HasZerosPast (used + n) new
put_in used n block piece new fits long whole e h =
    let front : List ℕ = take used block ++ piece in
    let count : length front ≡ used + n = omega (arith, length-append (take used block) piece, length-take used block) in
    let back : List ℕ = drop (length piece) (drop used block) in
    record {
      limit = fits;
      rest =
          ap (drop (used + n)) e ∙ drop_at front back (used + n) count
          ∙ ap (λ (k : ℕ). drop k (drop used block)) long ∙ ap (drop n) h.rest ∙ drop-replicate n (16 - used) 0 ∙ ap (λ (k : ℕ). replicate k 0) (omega arith);
    }
