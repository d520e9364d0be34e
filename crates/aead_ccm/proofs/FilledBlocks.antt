-- The blocks of a text whose end is filled with zeros.
use Rattle.aead_ccm.proofs.Common.{List, [], ap, append-nil, ap₂, arith, block_count, blocks, cases_lt, drop, drop-append-le, filled_block, filled_blocks, inl, inr, length, length-append, length-drop, length-replicate, length-take, replicate, suc, sym, take, take-append-le, take_all, zero_filled, ℕ, ◌%◌, ◌++◌, ◌-◌, ◌<◌, ◌∙◌, ◌∷◌, ◌≡◌}

filled_block-whole : (block : List ℕ) → length block ≡ 16 → filled_block block ≡ block
filled_block-whole block h =
    let none : 16 - length block ≡ 0 = omega arith in
    ap (λ (n : ℕ). block ++ replicate n 0) none ∙ append-nil block

pub filled_blocks-empty : (text : List ℕ) → length text ≡ 0 → filled_blocks text ≡ []
unfolding blocks
filled_blocks-empty text h =
    let none : block_count (length text) ≡ 0 = omega arith in
    ap (λ (n : ℕ). blocks n (zero_filled text)) none

pub filled_blocks-next : (text : List ℕ) → 0 < length text → filled_blocks text ≡ filled_block (take 16 text) ∷ filled_blocks (drop 16 text)
unfolding blocks
filled_blocks-next text some =
    let n : ℕ = length text in
    let rest : List ℕ = drop 16 text in
    let m : ℕ = block_count (length rest) in
    let zeros : List ℕ = replicate ((16 - n % 16) % 16) 0 in
    let count : block_count n ≡ suc m = omega (arith, length-drop 16 text) in
    let first : filled_blocks text ≡ take 16 (zero_filled text) ∷ blocks m (drop 16 (zero_filled text)) = ap (λ (k : ℕ). blocks k (zero_filled text)) count in
    first ∙ elim (cases_lt n 16) [
      | inl short ↦
          let whole : take 16 text ≡ text = take_all 16 text (omega arith) in
          let fill : (16 - n % 16) % 16 ≡ 16 - n = omega arith in
          let long : length (zero_filled text) ≡ 16 = omega (arith, length-append text zeros, length-replicate {A = ℕ} ((16 - n % 16) % 16) 0) in
          let none : m ≡ 0 = omega (arith, length-drop 16 text) in
          ap₂ (λ (b : List ℕ) (bs : List (List ℕ)). b ∷ bs)
          (take_all 16 (zero_filled text) (omega arith) ∙ ap (λ (k : ℕ). text ++ replicate k 0) fill ∙ sym (ap filled_block whole))
          (ap (λ (k : ℕ). blocks k (drop 16 (zero_filled text))) none ∙ sym (filled_blocks-empty rest (omega (arith, length-drop 16 text))))
      | inr long ↦
          let front : take 16 (zero_filled text) ≡ take 16 text = take-append-le 16 text zeros (omega arith) in
          let back : drop 16 (zero_filled text) ≡ rest ++ zeros = drop-append-le 16 text zeros (omega arith) in
          let fill : (16 - n % 16) % 16 ≡ (16 - length rest % 16) % 16 = omega (arith, length-drop 16 text) in
          ap₂ (λ (b : List ℕ) (bs : List (List ℕ)). b ∷ bs)
          (front ∙ sym (filled_block-whole (take 16 text) (omega (arith, length-take 16 text))))
          (ap (blocks m) (back ∙ ap (λ (k : ℕ). rest ++ replicate k 0) fill))
    ]
