-- The chain over a text in pieces.
use Rattle.aead_streams.proofs.Common.{List, [], ap, append-nil, append_assoc, ap₂, arith, bit_xor, block_of_xor, chained, chained_from, drop, drop_all, drop_at, filled_block, filled_blocks, length, length-append, length-number_block, length-replicate, length-take, number_block, refl, replicate, sym, take, take-append-drop, take_all, take_at, xor_bytes, ℕ, ◌++◌, ◌-◌, ◌<◌, ◌∙◌, ◌∷◌, ◌≡◌, ◌≤◌}
use Rattle.std.specs.Int.Bits.{xor_zero_l}
use Rattle.aead_ccm.proofs.{FilledBlocks.filled_blocks-empty, Chains.front_chained, Chains.zero_block}

-- nothing more is taken in
pub chained_from-nothing : (e : List ℕ → List ℕ) (y : List ℕ) → chained_from e y (filled_blocks []) ≡ y
chained_from-nothing e y = ap (chained_from e y) (filled_blocks-empty [] refl)

-- a block that waits is absorbed ahead of what follows it
pub full_absorbed : (e : List ℕ → List ℕ) (v x w : ℕ) (waiting left rest : List ℕ) → length waiting ≡ 16 → number_block x ≡ filled_block waiting → number_block w ≡ e (number_block (bit_xor v x)) → left ≡ []
    → chained_from e (number_block w) (filled_blocks (left ++ rest)) ≡ chained_from e (number_block v) (filled_blocks (waiting ++ rest))
full_absorbed e v x w waiting left rest long ex ew el =
    ap (λ (l : List ℕ). chained_from e (number_block w) (filled_blocks (l ++ rest))) el
    ∙ front_chained e v x w (waiting ++ rest) rest (omega (arith, length-append waiting rest)) (ex ∙ ap filled_block (sym (take_at waiting rest 16 long))) (sym (drop_at waiting rest 16 long)) ew

-- a part of a block that waits is absorbed with zeros behind it
pub part_absorbed : (e : List ℕ → List ℕ) (v x w : ℕ) (waiting : List ℕ) → 0 < length waiting → number_block x ≡ filled_block waiting → number_block w ≡ e (number_block (bit_xor v x))
    → number_block w ≡ chained_from e (number_block v) (filled_blocks (waiting ++ []))
part_absorbed e v x w waiting some ex ew =
    let zeros : List ℕ = replicate (16 - length waiting) 0 in
    let limit : length waiting ≤ 16 = omega (arith, ap length ex, length-number_block x, length-append waiting zeros, length-replicate {A = ℕ} (16 - length waiting) 0) in
    sym (chained_from-nothing e (number_block w))
    ∙ front_chained e v x w waiting [] some (ex ∙ ap filled_block (sym (take_all 16 waiting limit))) (sym (drop_all 16 waiting limit)) ew
    ∙ ap (λ (l : List ℕ). chained_from e (number_block v) (filled_blocks l)) (sym (append-nil waiting))

pub none_waits : (e : List ℕ → List ℕ) (v : ℕ) (waiting : List ℕ) → waiting ≡ [] → number_block v ≡ chained_from e (number_block v) (filled_blocks (waiting ++ []))
none_waits e v waiting h = sym (ap (λ (l : List ℕ). chained_from e (number_block v) (filled_blocks (l ++ []))) h ∙ chained_from-nothing e (number_block v))

regrouped : (a t d r : List ℕ) → (a ++ t) ++ (d ++ r) ≡ a ++ ((t ++ d) ++ r)
regrouped a t d r = simp append_assoc

-- the front of a piece waits too
pub put_waits : (e : List ℕ → List ℕ) (v : ℕ) (before waiting piece rest : List ℕ) (n : ℕ) → waiting ≡ before ++ take n piece
    → chained_from e (number_block v) (filled_blocks (waiting ++ (drop n piece ++ rest))) ≡ chained_from e (number_block v) (filled_blocks (before ++ (piece ++ rest)))
put_waits e v before waiting piece rest n h =
    ap (λ (l : List ℕ). chained_from e (number_block v) (filled_blocks l))
    (ap (λ (l : List ℕ). l ++ (drop n piece ++ rest)) h ∙ regrouped before (take n piece) (drop n piece) rest ∙ ap (λ (l : List ℕ). before ++ (l ++ rest)) (take-append-drop n piece))

-- the chain's first block
pub first_chained : (e : List ℕ → List ℕ) (control : ℕ) (first : List ℕ) → number_block control ≡ first → e (number_block control) ≡ chained e (first ∷ [])
unfolding chained
first_chained e control first h =
    ap e (ap number_block (sym (xor_zero_l control)) ∙ block_of_xor 0 control ∙ ap₂ xor_bytes zero_block h)

-- a block is absorbed from the front of a piece
pub front_absorbed : (e : List ℕ → List ℕ) (v x w : ℕ) (waiting piece rest : List ℕ) → waiting ≡ [] → 16 ≤ length piece → number_block x ≡ filled_block (take 16 piece) → number_block w ≡ e (number_block (bit_xor v x))
    → chained_from e (number_block w) (filled_blocks (waiting ++ (drop 16 piece ++ rest))) ≡ chained_from e (number_block v) (filled_blocks (waiting ++ (piece ++ rest)))
front_absorbed e v x w waiting piece rest none long ex ew =
    let whole : take 16 piece ++ (drop 16 piece ++ rest) ≡ waiting ++ (piece ++ rest) =
    sym (append_assoc (take 16 piece) (drop 16 piece) rest) ∙ ap (λ (l : List ℕ). l ++ rest) (take-append-drop 16 piece) ∙ ap (λ (l : List ℕ). l ++ (piece ++ rest)) (sym none) in
    full_absorbed e v x w (take 16 piece) waiting (drop 16 piece ++ rest) (omega (arith, length-take 16 piece)) ex ew none
    ∙ ap (λ (l : List ℕ). chained_from e (number_block v) (filled_blocks l)) whole
