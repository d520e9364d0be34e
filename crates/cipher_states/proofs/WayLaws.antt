-- What the ways make of a text in two parts.
use Rattle.cipher_states.proofs.Common.{CbcDecrypt, CbcEncrypt, EcbDecrypt, EcbEncrypt, List, Way, aes_decrypt, aes_encrypt, ap, ap₂, arith, blocks, cbc_blocks, cbc_decrypt, cbc_encrypt, cbc_plain_blocks, chains, ecb_decrypt, ecb_encrypt, last_ciphertext_block, length, length-append, length-drop, map, map-append, next_chain, processed, refl, sym, true, ℕ, ◌%◌, ◌++◌, ◌/◌, ◌∙◌, ◌≡◌}
use Rattle.cipher_states.proofs.BlockLaws.{EachLong, blocks-long, blocks_joined, by_blocks, cbc-long, cbc_on, cbc_plain-long, cbc_plain_on, ecb-long, last_joined, last_of, last_twice, length-by_blocks, two_parts}

encrypted-long : (key b : List ℕ) → length (aes_encrypt key b) ≡ 16
unfolding aes_encrypt
encrypted-long key b = refl

decrypted-long : (key b : List ℕ) → length (aes_decrypt key b) ≡ 16
unfolding aes_decrypt
decrypted-long key b = refl

-- what a way makes of blocks
abbrev made : Way → (key iv : List ℕ) → List (List ℕ) → List (List ℕ)
made EcbEncrypt key iv bs = map (aes_encrypt key) bs
made EcbDecrypt key iv bs = map (aes_decrypt key) bs
made CbcEncrypt key iv bs = cbc_blocks (aes_encrypt key) iv bs
made CbcDecrypt key iv bs = cbc_plain_blocks (aes_decrypt key) iv bs

made_of : (way : Way) (key iv text : List ℕ) → processed way key iv text ≡ by_blocks (made way key iv) text
unfolding by_blocks cbc_decrypt cbc_encrypt ecb_decrypt ecb_encrypt
made_of EcbEncrypt key iv text = refl
made_of way key iv text = refl

-- with what the blocks after these are chained
abbrev after : Way → (key iv : List ℕ) → List (List ℕ) → List ℕ
after CbcEncrypt key iv bs = last_of iv (cbc_blocks (aes_encrypt key) iv bs)
after CbcDecrypt key iv bs = last_of iv bs
after _ key iv bs = iv

made_on : (way : Way) (key iv : List ℕ) (xs ys : List (List ℕ)) → made way key iv (xs ++ ys) ≡ made way key iv xs ++ made way key (after way key iv xs) ys
made_on EcbEncrypt key iv xs ys = map-append (aes_encrypt key) xs ys
made_on EcbDecrypt key iv xs ys = map-append (aes_decrypt key) xs ys
made_on CbcEncrypt key iv xs ys = cbc_on (aes_encrypt key) iv xs ys
made_on CbcDecrypt key iv xs ys = cbc_plain_on (aes_decrypt key) iv xs ys

made-long : (way : Way) (key iv : List ℕ) (bs : List (List ℕ)) → (chains way ≡ true → length iv ≡ 16) → EachLong bs → EachLong (made way key iv bs) × (length (made way key iv bs) ≡ length bs)
made-long EcbEncrypt key iv bs v h = ecb-long (aes_encrypt key) (encrypted-long key) bs
made-long EcbDecrypt key iv bs v h = ecb-long (aes_decrypt key) (decrypted-long key) bs
made-long CbcEncrypt key iv bs v h = cbc-long (aes_encrypt key) (encrypted-long key) iv bs
made-long CbcDecrypt key iv bs v h = cbc_plain-long (aes_decrypt key) (decrypted-long key) iv bs (v refl) h

-- from what chain on the second part goes
pub second_chain : Way → (key iv a : List ℕ) → List ℕ
second_chain way key iv a = after way key iv (blocks (length a / 16) a)

pub processed_grows : (way : Way) (key iv a b : List ℕ) → length a % 16 ≡ 0 → processed way key iv (a ++ b) ≡ processed way key iv a ++ processed way key (second_chain way key iv a) b
unfolding second_chain
processed_grows way key iv a b whole =
    let next : List ℕ = after way key iv (blocks (length a / 16) a) in
    made_of way key iv (a ++ b) ∙ two_parts (made way key iv) (made way key next) a b whole (made_on way key iv (blocks (length a / 16) a))
    ∙ ap₂ (λ (l m : List ℕ). l ++ m) (sym (made_of way key iv a)) (sym (made_of way key next b))

-- a chain that is known where the way has one
known_chain : (way : Way) (key iv chain a b : List ℕ) → length a % 16 ≡ 0 → (chains way ≡ true → length iv ≡ 16) → (chains way ≡ true → chain ≡ next_chain way key iv a)
    → processed way key (second_chain way key iv a) b ≡ processed way key chain b
unfolding cbc_encrypt second_chain
known_chain CbcEncrypt key iv chain a b whole v e =
    let bs : List (List ℕ) = blocks (length a / 16) a in
    ap (λ (c : List ℕ). cbc_encrypt (aes_encrypt key) c b) (sym (e refl ∙ last_joined iv (cbc_blocks (aes_encrypt key) iv bs) (v refl) (cbc-long (aes_encrypt key) (encrypted-long key) iv bs).0))
known_chain CbcDecrypt key iv chain a b whole v e =
    let n : ℕ = length a / 16 in
    ap (λ (c : List ℕ). cbc_decrypt (aes_decrypt key) c b)
    (sym (e refl ∙ ap (last_ciphertext_block iv) (sym (blocks_joined n a (omega arith))) ∙ last_joined iv (blocks n a) (v refl) (blocks-long n a (omega arith))))
known_chain way key iv chain a b whole v e = refl

pub processed_parts : (way : Way) (key iv chain a b : List ℕ) → length a % 16 ≡ 0 → (chains way ≡ true → length iv ≡ 16) → (chains way ≡ true → chain ≡ next_chain way key iv a)
    → processed way key iv (a ++ b) ≡ processed way key iv a ++ processed way key chain b
processed_parts way key iv chain a b whole v e =
    processed_grows way key iv a b whole ∙ ap (λ (l : List ℕ). processed way key iv a ++ l) (known_chain way key iv chain a b whole v e)

pub length-processed : (way : Way) (key iv text : List ℕ) → (chains way ≡ true → length iv ≡ 16) → length text % 16 ≡ 0 → length (processed way key iv text) ≡ length text
length-processed way key iv text v whole =
    let n : ℕ = length text / 16 in
    ap length (made_of way key iv text) ∙ length-by_blocks (made way key iv) text whole (made-long way key iv (blocks n text) v (blocks-long n text (omega arith)))

pub next_chain_parts : (way : Way) (key iv chain a b : List ℕ) → length a % 16 ≡ 0 → (chains way ≡ true → length iv ≡ 16) → chains way ≡ true → chain ≡ next_chain way key iv a
    → next_chain way key iv (a ++ b) ≡ next_chain way key chain b
next_chain_parts CbcEncrypt key iv chain a b whole v c e =
    ap (last_ciphertext_block iv) (processed_parts CbcEncrypt key iv chain a b whole v (λ _. e))
    ∙ last_twice iv (cbc_encrypt (aes_encrypt key) iv a) (cbc_encrypt (aes_encrypt key) chain b)
    ∙ ap (λ (l : List ℕ). last_ciphertext_block l (cbc_encrypt (aes_encrypt key) chain b)) (sym e)
next_chain_parts CbcDecrypt key iv chain a b whole v c e = last_twice iv a b ∙ ap (λ (l : List ℕ). last_ciphertext_block l b) (sym e)
next_chain_parts way key iv chain a b whole v c e = cc

length-last : (chain text : List ℕ) → length (last_ciphertext_block chain text) ≡ length chain
length-last chain text = omega (arith, length-drop (length text) (chain ++ text), length-append chain text)

pub length-next_chain : (way : Way) (key iv text : List ℕ) → length (next_chain way key iv text) ≡ length iv
length-next_chain CbcEncrypt key iv text = length-last iv (cbc_encrypt (aes_encrypt key) iv text)
length-next_chain CbcDecrypt key iv text = length-last iv text
length-next_chain way key iv text = refl
