-- The chain over the formatted blocks, in parts.
use Rattle.aead_ccm.proofs.Common.{List, ap, ap₂, arith, bit_xor, block_count, block_of_xor, chain_step, chained, chained_from, drop, drop-drop, filled_block, filled_blocks, length, length-drop, min, number_block, refl, replicate, sym, take, take_min, xor_bytes, xor_zero_l, ℕ, ◌*◌, ◌++◌, ◌+◌, ◌-◌, ◌<◌, ◌∙◌, ◌∷◌, ◌≡◌}
use Rattle.std.proofs.lemmas.List.Sums.{fold-append}
use Rattle.aead_ccm.proofs.FilledBlocks.{filled_blocks-next, filled_blocks-empty}

-- one block more: w is what the value v and the block x become
step_is : (e : List ℕ → List ℕ) (v x w : ℕ) (block : List ℕ) → number_block x ≡ block → number_block w ≡ e (number_block (bit_xor v x)) → number_block w ≡ chain_step e (number_block v) block
step_is e v x w block ex ew = ew ∙ ap e (block_of_xor v x ∙ ap (xor_bytes (number_block v)) ex)

-- the front of a text, and what the chain goes on with
pub front_chained : (e : List ℕ → List ℕ) (v x w : ℕ) (text rest : List ℕ) → 0 < length text → number_block x ≡ filled_block (take 16 text) → rest ≡ drop 16 text
    → number_block w ≡ e (number_block (bit_xor v x)) → chained_from e (number_block w) (filled_blocks rest) ≡ chained_from e (number_block v) (filled_blocks text)
front_chained e v x w text rest some ex er ew =
    ap₂ (λ (y l : List ℕ). chained_from e y (filled_blocks l)) (step_is e v x w (filled_block (take 16 text)) ex ew) er
    ∙ sym (ap (chained_from e (number_block v)) (filled_blocks-next text some))

-- block n of a text
pub block_chained : (e : List ℕ → List ℕ) (v x w n end : ℕ) (text : List ℕ) → n < block_count (length text) → end ≡ min (length text) (16 * n + 16)
    → number_block x ≡ filled_block (take (end - 16 * n) (drop (16 * n) text)) → number_block w ≡ e (number_block (bit_xor v x))
    → chained_from e (number_block w) (filled_blocks (drop (16 * (n + 1)) text)) ≡ chained_from e (number_block v) (filled_blocks (drop (16 * n) text))
block_chained e v x w n end text below ee ex ew =
    let d : List ℕ = drop (16 * n) text in
    let next : drop (16 * (n + 1)) text ≡ drop 16 d = ap (λ (k : ℕ). drop k text) (omega arith) ∙ sym (drop-drop 16 (16 * n) text) in
    let count : end - 16 * n ≡ min 16 (length d) = omega (arith, length-drop (16 * n) text) in
    let piece : take (end - 16 * n) d ≡ take 16 d = ap (λ (k : ℕ). take k d) count ∙ take_min 16 d in
    front_chained e v x w d (drop (16 * (n + 1)) text) (omega (arith, length-drop (16 * n) text)) (ex ∙ ap filled_block piece) next ew

pub all_chained : (e : List ℕ → List ℕ) (y text : List ℕ) (n : ℕ) → block_count (length text) ≡ n → y ≡ chained_from e y (filled_blocks (drop (16 * n) text))
all_chained e y text n h = sym (ap (chained_from e y) (filled_blocks-empty (drop (16 * n) text) (omega (arith, length-drop (16 * n) text))))

pub zero_block : number_block 0 ≡ replicate 16 0
unfolding number_block
zero_block = refl

-- from the zero block: the first block, and the associated data
pub front_is : (e : List ℕ → List ℕ) (control start value : ℕ) (first : List ℕ) (front : List (List ℕ)) → number_block control ≡ first → number_block start ≡ e (number_block control)
    → number_block value ≡ chained_from e (number_block start) front → number_block value ≡ chained e (first ∷ front)
unfolding chained
front_is e control start value first front ef es ev =
    let sum : number_block control ≡ xor_bytes (replicate 16 0) first =
    ap number_block (sym (xor_zero_l control)) ∙ block_of_xor 0 control ∙ ap₂ xor_bytes zero_block ef in
    ev ∙ ap (λ (y : List ℕ). chained_from e y front) (es ∙ ap e sum)

-- and then the payload
pub payload_chained : (e : List ℕ → List ℕ) (front payload : List (List ℕ)) (value result : ℕ) → number_block value ≡ chained e front
    → number_block result ≡ chained_from e (number_block value) payload → number_block result ≡ chained e (front ++ payload)
unfolding chained
payload_chained e front payload value result ev er =
    er ∙ ap (λ (y : List ℕ). chained_from e y payload) ev ∙ sym (fold-append (chain_step e) (replicate 16 0) front payload)
