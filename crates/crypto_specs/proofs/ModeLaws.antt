-- ECB and CBC: decryption undoes encryption. CTR and the texts of CCM and GCM: xoring twice.
use Rattle.std.proofs.{Common.List, Common.[], Common.ap, Common.ap₂, Common.arith, Common.drop, Common.length, Common.map, Common.refl, Common.suc, Common.sym, Common.zero, Common.ℕ, Common.◌%◌, Common.◌*◌, Common.◌++◌, Common.◌+◌, Common.◌-◌, Common.◌/◌, Common.◌<◌, Common.◌∙◌, Common.◌∷◌, Common.◌≡◌, Common.◌≤◌, lemmas.List.Elements.All-take, lemmas.List.Elements.All-drop}
use Rattle.crypto_specs.proofs.Common.{AnyCuttingIsTheSame, AreBytes, block_count, blocks, cbc_blocks, cbc_decrypt, cbc_encrypt, cbc_plain_blocks, CbcDecryptionUndoesEncryption, ccm_counter_block, ccm_stream, ccm_text, CcmTextUndoesItself, counter_block, ctr_pieces, ctr_xor, CtrUndoesItself, drop_at, ecb_decrypt, ecb_encrypt, EcbDecryptionUndoesEncryption, gcm_stream, gcm_text, GcmTextUndoesItself, increased, initial_counter_block, IsBlock, IsUndoneBy, joined, KeepsLength, key_stream, length-append, length-drop, length-take, number_block, take_at, to_be_bytes, w64, xor_bytes, xor_stream}
use Rattle.crypto_specs.proofs.{CipherInverseLists.bytes_of_all, CipherInverseLists.all_of_bytes, CipherInverseLists.xored_bytes, Blocks.length-number_block, Blocks.blocks_joined, XorBytes.length-xor_bytes, XorBytes.xor_bytes_twice, KeyStream.xor_stream_of_parts, KeyStream.length-blocks_of_stream, KeyStream.ctr_by_blocks}

-- ---- blocks

xor-block : (a b : List ℕ) → IsBlock a → IsBlock b → IsBlock (xor_bytes a b)
xor-block a b h k = record { long = omega (arith, length-xor_bytes a b, h.long, k.long); bytes = all_of_bytes (xor_bytes a b) (xored_bytes a b (bytes_of_all a h.bytes) (bytes_of_all b k.bytes)) }

abbrev EachBlock : List (List ℕ) → Type 0
EachBlock [] = Unit {0}
EachBlock (b ∷ bs) = IsBlock b × EachBlock bs

blocks-each : (n : ℕ) (text : List ℕ) → AreBytes text → length text ≡ 16 * n → EachBlock (blocks n text)
unfolding blocks
blocks-each zero text h e = tt
blocks-each (suc n) text h e = (
  record { long = omega (arith, length-take 16 text); bytes = All-take (λ b. b < 256) 16 text h },
  blocks-each n (drop 16 text) (All-drop (λ b. b < 256) 16 text h) (omega (arith, length-drop 16 text)),
)

length-joined : (bs : List (List ℕ)) → EachBlock bs → length (joined bs) ≡ 16 * length bs
length-joined [] h = refl
length-joined (b ∷ bs) h = omega (arith, length-append b (joined bs), length-joined bs h.1, h.0.long)

joined_cut : (bs : List (List ℕ)) → EachBlock bs → blocks (length bs) (joined bs) ≡ bs
unfolding blocks
joined_cut [] h = refl
joined_cut (b ∷ bs) h =
    ap₂ (λ (c : List ℕ) (cs : List (List ℕ)). c ∷ cs) (take_at b (joined bs) 16 h.0.long)
    (ap (blocks (length bs)) (drop_at b (joined bs) 16 h.0.long) ∙ joined_cut bs h.1)

-- what is done to the blocks of a text, and undone
undone_by_blocks : (f g : List (List ℕ) → List (List ℕ)) (text : List ℕ)
    → (let bs : List (List ℕ) = blocks (length text / 16) text in EachBlock bs → EachBlock (f bs) × (length (f bs) ≡ length bs) × (g (f bs) ≡ bs))
    → AreBytes text → length text % 16 ≡ 0
    → (let cipher_text : List ℕ = joined (f (blocks (length text / 16) text)) in joined (g (blocks (length cipher_text / 16) cipher_text)) ≡ text)
undone_by_blocks f g text law ab whole =
    let n : ℕ = length text / 16 in
    let long : length text ≡ 16 * n = omega arith in
    let bs : List (List ℕ) = blocks n text in
    let facts : EachBlock (f bs) × (length (f bs) ≡ length bs) × (g (f bs) ≡ bs) = law (blocks-each n text ab long) in
    let count : length (joined (f bs)) / 16 ≡ length (f bs) = omega (arith, length-joined (f bs) facts.0) in
    ap (λ (m : ℕ). joined (g (blocks m (joined (f bs))))) count
    ∙ ap (λ (l : List (List ℕ)). joined (g l)) (joined_cut (f bs) facts.0) ∙ ap joined facts.2 ∙ blocks_joined n text long

-- ---- ECB

module _ (e d : List ℕ → List ℕ) (u : IsUndoneBy e d) where
  ecb-each : (bs : List (List ℕ)) → EachBlock bs → EachBlock (map e bs)
  ecb-each [] h = tt
  ecb-each (b ∷ bs) h = (u.block b h.0, ecb-each bs h.1)

  length-ecb : (bs : List (List ℕ)) → length (map e bs) ≡ length bs
  length-ecb [] = refl
  length-ecb (b ∷ bs) = ap suc (length-ecb bs)

  ecb_undone : (bs : List (List ℕ)) → EachBlock bs → map d (map e bs) ≡ bs
  ecb_undone [] h = refl
  ecb_undone (b ∷ bs) h = ap₂ (λ (c : List ℕ) (cs : List (List ℕ)). c ∷ cs) (u.undone b h.0) (ecb_undone bs h.1)

  -- ---- CBC

  cbc-each : (iv : List ℕ) (bs : List (List ℕ)) → IsBlock iv → EachBlock bs → EachBlock (cbc_blocks e iv bs)
  unfolding cbc_blocks
  cbc-each iv [] v h = tt
  cbc-each iv (b ∷ bs) v h =
      let c : IsBlock (e (xor_bytes b iv)) = u.block (xor_bytes b iv) (xor-block b iv h.0 v) in
      (c, cbc-each (e (xor_bytes b iv)) bs c h.1)

  length-cbc : (iv : List ℕ) (bs : List (List ℕ)) → length (cbc_blocks e iv bs) ≡ length bs
  unfolding cbc_blocks
  length-cbc iv [] = refl
  length-cbc iv (b ∷ bs) = ap suc (length-cbc (e (xor_bytes b iv)) bs)

  cbc_undone : (iv : List ℕ) (bs : List (List ℕ)) → IsBlock iv → EachBlock bs → cbc_plain_blocks d iv (cbc_blocks e iv bs) ≡ bs
  unfolding cbc_blocks cbc_plain_blocks
  cbc_undone iv [] v h = refl
  cbc_undone iv (b ∷ bs) v h =
      let x : List ℕ = xor_bytes b iv in
      let xb : IsBlock x = xor-block b iv h.0 v in
      ap₂ (λ (c : List ℕ) (cs : List (List ℕ)). c ∷ cs)
      (ap (λ (p : List ℕ). xor_bytes p iv) (u.undone x xb) ∙ xor_bytes_twice b iv (omega (arith, h.0.long, v.long)))
      (cbc_undone (e x) bs (u.block x xb) h.1)

pub ecb_decryption_undoes_encryption : EcbDecryptionUndoesEncryption
unfolding ecb_encrypt ecb_decrypt
ecb_decryption_undoes_encryption e d u text =
    let bs : List (List ℕ) = blocks (length text / 16) text in
    undone_by_blocks (map e) (map d) text (λ h. (ecb-each e d u bs h, length-ecb e d u bs, ecb_undone e d u bs h))

pub cbc_decryption_undoes_encryption : CbcDecryptionUndoesEncryption
unfolding cbc_encrypt cbc_decrypt
cbc_decryption_undoes_encryption e d u iv text v =
    let bs : List (List ℕ) = blocks (length text / 16) text in
    undone_by_blocks (cbc_blocks e iv) (cbc_plain_blocks d iv) text (λ h. (cbc-each e d u iv bs v h, length-cbc e d u iv bs, cbc_undone e d u iv bs v h))

-- ---- what is xored with a stream

xored_twice : (stream : ℕ → List ℕ) (text : List ℕ) → ((n : ℕ) → length (stream n) ≡ 16 * n)
    → (let once : List ℕ = xor_bytes text (stream (block_count (length text))) in xor_bytes once (stream (block_count (length once))) ≡ text)
xored_twice stream text long =
    let n : ℕ = block_count (length text) in
    let once : List ℕ = xor_bytes text (stream n) in
    let same : length once ≡ length text = omega (arith, length-xor_bytes text (stream n), long n) in
    ap (λ (m : ℕ). xor_bytes once (stream (block_count m))) same ∙ xor_bytes_twice text (stream n) (omega (arith, long n))

length-counter_block : (iv : List ℕ) (n : ℕ) → length (counter_block iv n) ≡ 16
unfolding counter_block number_block
length-counter_block iv n = refl

pub ctr_undoes_itself : CtrUndoesItself
unfolding ctr_xor
ctr_undoes_itself e keeps iv text =
    xored_twice (key_stream e iv) text (length-blocks_of_stream e iv (λ n. keeps (counter_block iv n) (length-counter_block iv n)))

pieces_from : (e : List ℕ → List ℕ) (iv : List ℕ) (j : ℕ) (pieces : List (List ℕ)) → ctr_pieces e iv j pieces ≡ xor_stream e iv j (joined pieces)
unfolding xor_stream
pieces_from e iv j [] = refl
pieces_from e iv j (p ∷ ps) =
    ap (λ (l : List ℕ). xor_stream e iv j p ++ l) (pieces_from e iv (j + length p) ps) ∙ sym (xor_stream_of_parts e iv p (joined ps) j)

pub any_cutting_is_the_same : AnyCuttingIsTheSame
any_cutting_is_the_same e keeps iv pieces =
    pieces_from e iv 0 pieces ∙ sym (ctr_by_blocks e iv (λ n. keeps (counter_block iv n) (length-counter_block iv n)) (joined pieces))

length-ccm_stream : (e : List ℕ → List ℕ) (nonce : List ℕ) → ((n : ℕ) → length (e (ccm_counter_block nonce n)) ≡ 16) → (n : ℕ) → length (ccm_stream e nonce n) ≡ 16 * n
unfolding ccm_stream
length-ccm_stream e nonce long zero = refl
length-ccm_stream e nonce long (suc n) =
    omega (arith, length-append (ccm_stream e nonce n) (e (ccm_counter_block nonce (n + 1))), length-ccm_stream e nonce long n, long (n + 1))

length-ccm_counter_block : (nonce : List ℕ) (i : ℕ) → 7 ≤ length nonce → length nonce ≤ 13 → length (ccm_counter_block nonce i) ≡ 16
unfolding ccm_counter_block
length-ccm_counter_block nonce i low high =
    let q : ℕ = 15 - length nonce in
    let eight : length (to_be_bytes w64 i) ≡ 8 = refl in
    omega (arith, length-append nonce (drop (8 - q) (to_be_bytes w64 i)), length-drop (8 - q) (to_be_bytes w64 i))

pub ccm_text_undoes_itself : CcmTextUndoesItself
unfolding ccm_text
ccm_text_undoes_itself e keeps nonce text low high =
    xored_twice (ccm_stream e nonce) text (length-ccm_stream e nonce (λ n. keeps (ccm_counter_block nonce n) (length-ccm_counter_block nonce n low high)))

length-gcm_stream : (e : List ℕ → List ℕ) → KeepsLength e → (y n : ℕ) → length (gcm_stream e y n) ≡ 16 * n
unfolding gcm_stream
length-gcm_stream e keeps y zero = refl
length-gcm_stream e keeps y (suc n) =
    let block : List ℕ = number_block (increased y (n + 1)) in
    omega (arith, length-append (gcm_stream e y n) (e block), length-gcm_stream e keeps y n, keeps block (length-number_block (increased y (n + 1))))

pub gcm_text_undoes_itself : GcmTextUndoesItself
unfolding gcm_text
gcm_text_undoes_itself e keeps nonce text = xored_twice (gcm_stream e (initial_counter_block e nonce)) text (length-gcm_stream e keeps (initial_counter_block e nonce))
