-- The steps of a chain: a block is enciphered, a piece is added, the tag is made.
use Rattle.cmac_ops.proofs.Common.{Bool, ChainHolds, IsChained, List, [], aes_encrypt, ap, ap₂, arith, bit_xor, block_of_xor, blocks, chained, cmac, cond, doubled, drop, drop-append-le, drop_all, front_count, inl, inr, last_block, length, length-append, length-drop, number_block, refl, replicate, subkey1, subkey2, sym, take, take_all, xor_bytes, ℕ, ◌*◌, ◌++◌, ◌+◌, ◌-◌, ◌<◌, ◌^◌, ◌∙◌, ◌∷◌, ◌≡◌, ◌≤◌}
use Rattle.std.proofs.lemmas.Bool.{cases_eq, eq-eqb, ne_eqb}
use Rattle.cmac_ops.specs.declared.chain.Chain.{Chain}
use Rattle.crypto_specs.proofs.Blocks.{blocks-append}
use Rattle.cmac_ops.proofs.{Blocks.blocks-add-one, Blocks.chained_push, Numbers.length-block, Numbers.number_from}

-- the full block is enciphered
pub enciphered : (c d : Chain) (key m : List ℕ) (n : ℕ) → c.used ≡ 16 → number_block n ≡ c.block → number_block d.value ≡ aes_encrypt key (number_block (bit_xor c.value n)) → d.used ≡ 0 → IsChained c key m → IsChained d key m
enciphered c d key m n full number value empty h =
    let e : List ℕ → List ℕ = aes_encrypt key in
    let left : List ℕ = drop (16 * h.count) m in
    let whole : take 16 c.block ≡ c.block = take_all 16 c.block (omega (arith, length-block n c.block number)) in
    let block : c.block ≡ left = sym whole ∙ ap (λ (k : ℕ). take k c.block) (sym full) ∙ h.left in
    let last : take 16 left ≡ left = take_all 16 left (omega (arith, length-drop (16 * h.count) m, h.place)) in
    let sum : number_block (bit_xor c.value n) ≡ xor_bytes (chained e (blocks h.count m)) (take 16 left) =
    block_of_xor c.value n ∙ ap₂ xor_bytes h.value (number ∙ block ∙ sym last) in
    record {
      count = h.count + 1;
      value = value ∙ ap e sum ∙ sym (ap (chained e) (blocks-add-one h.count m) ∙ chained_push e (blocks h.count m) (take 16 left));
      place = omega (arith, h.place);
      left = ap (λ (k : ℕ). take k d.block) empty ∙ sym (drop_all (16 * (h.count + 1)) m (omega (arith, h.place)));
    }

-- a piece is added to the block
put_in : (c d : Chain) (key m piece : List ℕ) → d.value ≡ c.value → d.used ≡ c.used + length piece → take d.used d.block ≡ take c.used c.block ++ piece → IsChained c key m → IsChained d key (m ++ piece)
put_in c d key m piece value used block h =
    let before : 16 * h.count ≤ length m = omega (arith, h.place) in
    record {
      count = h.count;
      value = ap number_block value ∙ h.value ∙ ap (chained (aes_encrypt key)) (sym (blocks-append h.count m piece before));
      place = omega (arith, h.place, length-append m piece);
      left = block ∙ ap (λ (l : List ℕ). l ++ piece) h.left ∙ sym (drop-append-le (16 * h.count) m piece before);
    }

-- a piece of some bytes leaves some in the block
pub put_some : (c d : Chain) (key m piece : List ℕ) → 0 < length piece → d.value ≡ c.value → d.used ≡ c.used + length piece → take d.used d.block ≡ take c.used c.block ++ piece → IsChained c key m → ChainHolds d key (m ++ piece)
put_some c d key m piece some value used block h = record {
  chained = put_in c d key m piece value used block h;
  kept = λ none. absurd (omega arith);
}

-- the chain of the empty message
pub started : (c : Chain) (key : List ℕ) → c.value ≡ 0 → c.used ≡ 0 → ChainHolds c key []
unfolding chained blocks number_block
started c key value empty = record {
  chained = record {
    count = 0;
    value = ap number_block value;
    place = omega arith;
    left = ap (λ (k : ℕ). take k c.block) empty;
  };
  kept = λ _. refl;
}

-- the chained blocks are those before the last one
count_is : (c : Chain) (key m : List ℕ) → c.used ≤ 16 → (h : ChainHolds c key m) → h.chained.count ≡ front_count (length m)
count_is c key m within h = elim (cases_eq c.used 0) [
  | inl none ↦
      let empty : length m ≡ 0 = ap length (h.kept none) in
      omega (arith, h.chained.place)
  | inr some ↦ omega (arith, h.chained.place)
]

-- the last block, whole or filled, with its subkey added
module _ (e : List ℕ → List ℕ) (l subkey : ℕ) (l_fits : l < 2 ^ 128) (is_l : number_block l ≡ e (number_block 0)) (is_subkey : subkey ≡ doubled l) where
  first_subkey : number_block subkey ≡ subkey1 e
  unfolding subkey1
  first_subkey = ap number_block (is_subkey ∙ ap doubled (number_from l (e (number_block 0)) l_fits is_l))

  second_subkey : subkey < 2 ^ 128 → number_block (doubled subkey) ≡ subkey2 e
  unfolding subkey2
  second_subkey fits = ap (λ (k : ℕ). number_block (doubled k)) (number_from subkey (subkey1 e) fits first_subkey)

  pub whole_last : (left : List ℕ) (n : ℕ) → length left ≡ 16 → number_block n ≡ left → number_block (bit_xor n subkey) ≡ last_block e left
  unfolding last_block
  whole_last left n long number =
      block_of_xor n subkey ∙ ap₂ xor_bytes number first_subkey
      ∙ sym (ap (λ (t : Bool). cond t (xor_bytes left (subkey1 e)) (xor_bytes (left ++ 0x80 ∷ replicate (15 - length left) 0) (subkey2 e))) (eq-eqb (length left) 16 long))

  pub filled_last : (left : List ℕ) (n double : ℕ) → subkey < 2 ^ 128 → length left < 16 → number_block n ≡ left ++ 0x80 ∷ replicate (15 - length left) 0 → double ≡ doubled subkey → number_block (bit_xor n double) ≡ last_block e left
  unfolding last_block
  filled_last left n double fits short number is_double =
      block_of_xor n double ∙ ap₂ xor_bytes number (ap number_block is_double ∙ second_subkey fits)
      ∙ sym (ap (λ (t : Bool). cond t (xor_bytes left (subkey1 e)) (xor_bytes (left ++ 0x80 ∷ replicate (15 - length left) 0) (subkey2 e))) (ne_eqb (length left) 16 (λ whole. absurd (omega arith))))

-- the last block under its subkey makes the tag
pub tag_of : (c : Chain) (key m tag : List ℕ) (last : ℕ) → c.used ≤ 16 → number_block last ≡ last_block (aes_encrypt key) (take c.used c.block) → tag ≡ aes_encrypt key (number_block (bit_xor c.value last)) → ChainHolds c key m → tag ≡ cmac (aes_encrypt key) m
unfolding cmac
tag_of c key m tag last within is_last is_tag h =
    let e : List ℕ → List ℕ = aes_encrypt key in
    let n : ℕ = h.chained.count in
    let end : List ℕ = last_block e (drop (16 * n) m) in
    let sum : number_block (bit_xor c.value last) ≡ xor_bytes (chained e (blocks n m)) end =
    block_of_xor c.value last ∙ ap₂ xor_bytes h.chained.value (is_last ∙ ap (last_block e) h.chained.left) in
    is_tag ∙ ap e sum ∙ sym (chained_push e (blocks n m) end)
    ∙ ap (λ (k : ℕ). chained e (blocks k m ++ last_block e (drop (16 * k) m) ∷ [])) (count_is c key m within h)
