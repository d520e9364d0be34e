-- The chain over the associated data and the payload, and its tag.
use Rattle.aead_streams.proofs.Common.{List, [], ap, append-nil, ap₂, arith, bit_xor, block_of_xor, ccm_counter_block, ccm_tag, chain_step, chained, chained_from, control_block, data_front, encoded_data, encoded_length, filled_blocks, formatted_blocks, inl, inr, length, number_block, refl, sym, take, xor_bytes, ℕ, ◌++◌, ◌<◌, ◌∙◌, ◌∷◌, ◌≡◌}
use Rattle.std.proofs.{lemmas.Bool.Decides.eqb_tells, lemmas.List.Sums.fold-append}
use Rattle.aead_ccm.proofs.Formats.{no_data, some_data}

data_front-some : (a : ℕ) → 0 < a → data_front a ≡ encoded_length a
data_front-some a h = elim (eqb_tells a 0) [ inl p ↦ absurd (omega (arith, p.1)) | inr p ↦ rw p.0 refl ]

-- the length and the associated data, once all of it is there
pub front_and_data : (ad : List ℕ) → data_front (length ad) ++ (ad ++ []) ≡ encoded_data ad
front_and_data [] = sym (no_data [] refl)
front_and_data (x ∷ xs) =
    ap₂ (λ (f l : List ℕ). f ++ l) (data_front-some (length (x ∷ xs)) (omega arith)) (append-nil (x ∷ xs)) ∙ sym (some_data (x ∷ xs) (omega arith))

-- the associated data ends where the payload begins
pub data_ended : (e : List ℕ → List ℕ) (value : ℕ) (waiting y before ad rest : List ℕ) → waiting ≡ [] → number_block value ≡ before
    → before ≡ chained_from e y (filled_blocks (data_front (length ad) ++ (ad ++ [])))
    → chained_from e (number_block value) (filled_blocks (waiting ++ rest)) ≡ chained_from e (chained_from e y (filled_blocks (encoded_data ad))) (filled_blocks rest)
data_ended e value waiting y before ad rest ew ev eb =
    ap (λ (l : List ℕ). chained_from e (number_block value) (filled_blocks (l ++ rest))) ew
    ∙ ap (λ (b : List ℕ). chained_from e b (filled_blocks rest)) (ev ∙ eb ∙ ap (λ (l : List ℕ). chained_from e y (filled_blocks l)) (front_and_data ad))

-- the first block, the associated data and the payload
whole_chain : (e : List ℕ → List ℕ) (first : List ℕ) (front payload : List (List ℕ)) → chained_from e (chained_from e (chained e (first ∷ [])) front) payload ≡ chained e (first ∷ front ++ payload)
unfolding chained
whole_chain e first front payload = sym (fold-append (chain_step e) (chained e (first ∷ [])) front payload)

pub tag_of_chain : (e : List ℕ → List ℕ) (t value mask : ℕ) (nonce ad plain before result : List ℕ) → result ≡ number_block (bit_xor value mask)
    → number_block value ≡ before
    → before ≡ chained_from e (chained_from e (chained e (control_block t nonce (length ad) (length plain) ∷ [])) (filled_blocks (encoded_data ad))) (filled_blocks (plain ++ []))
    → number_block mask ≡ e (ccm_counter_block nonce 0) → take t result ≡ ccm_tag e t nonce ad plain
unfolding ccm_tag formatted_blocks
tag_of_chain e t value mask nonce ad plain before result er ev eb em =
    let chain : number_block value ≡ chained e (formatted_blocks t nonce ad plain) =
    ev ∙ eb ∙ ap (λ (l : List ℕ). chained_from e (chained_from e (chained e (control_block t nonce (length ad) (length plain) ∷ [])) (filled_blocks (encoded_data ad))) (filled_blocks l)) (append-nil plain)
    ∙ whole_chain e (control_block t nonce (length ad) (length plain)) (filled_blocks (encoded_data ad)) (filled_blocks plain) in
    ap (take t) (er ∙ block_of_xor value mask ∙ ap₂ xor_bytes chain em)
