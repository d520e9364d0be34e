-- ECB and CBC of a text in two parts, of which the first is whole blocks.
use Rattle.cipher_states.proofs.Common.{List, [], ap, append-nil, append_assoc, ap₂, arith, blocks, cbc_blocks, cbc_plain_blocks, drop, drop-append-le, drop-drop, drop_at, joined, last_ciphertext_block, length, length-append, length-drop, length-take, map, refl, suc, sym, take, take-append-drop, take-append-le, xor_bytes, zero, ℕ, ◌%◌, ◌*◌, ◌++◌, ◌+◌, ◌/◌, ◌∙◌, ◌∷◌, ◌≡◌}
use Rattle.std.proofs.lemmas.Grind.{flat_map-append}
use Rattle.crypto_specs.proofs.XorBytes.{length-xor_bytes}

-- ---- blocks

blocks-append : (k m : ℕ) (a b : List ℕ) → length a ≡ 16 * k → blocks (k + m) (a ++ b) ≡ blocks k a ++ blocks m b
unfolding blocks
blocks-append zero m [] b e = ap (λ (n : ℕ). blocks n b) (omega arith)
blocks-append zero m (x ∷ xs) b e = absurd (omega arith)
blocks-append (suc k) m a b e =
    let more : suc k + m ≡ suc (k + m) = omega arith in
    ap (λ (n : ℕ). blocks n (a ++ b)) more
    ∙ ap₂ (λ (c : List ℕ) (cs : List (List ℕ)). c ∷ cs) (take-append-le 16 a b (omega arith))
    (ap (blocks (k + m)) (drop-append-le 16 a b (omega arith)) ∙ blocks-append k m (drop 16 a) b (omega (arith, length-drop 16 a)))

length-blocks : (n : ℕ) (text : List ℕ) → length (blocks n text) ≡ n
unfolding blocks
length-blocks zero text = refl
length-blocks (suc n) text = ap suc (length-blocks n (drop 16 text))

pub blocks_joined : (n : ℕ) (text : List ℕ) → length text ≡ 16 * n → joined (blocks n text) ≡ text
unfolding blocks
blocks_joined zero [] e = refl
blocks_joined zero (x ∷ xs) e = absurd (omega arith)
blocks_joined (suc n) text e = ap (λ (l : List ℕ). take 16 text ++ l) (blocks_joined n (drop 16 text) (omega (arith, length-drop 16 text))) ∙ take-append-drop 16 text

-- each block has 16 bytes
abbrev pub EachLong : List (List ℕ) → Type 0
EachLong [] = Unit {0}
EachLong (b ∷ bs) = (length b ≡ 16) × EachLong bs

pub blocks-long : (n : ℕ) (text : List ℕ) → length text ≡ 16 * n → EachLong (blocks n text)
unfolding blocks
blocks-long zero text e = tt
blocks-long (suc n) text e = (omega (arith, length-take 16 text), blocks-long n (drop 16 text) (omega (arith, length-drop 16 text)))

length-joined : (bs : List (List ℕ)) → EachLong bs → length (joined bs) ≡ 16 * length bs
length-joined [] h = refl
length-joined (b ∷ bs) h = omega (arith, length-append b (joined bs), length-joined bs h.1, h.0)

-- a mode of blocks, on a text
unfoldable pub by_blocks : (List (List ℕ) → List (List ℕ)) → List ℕ → List ℕ
by_blocks mode text = joined (mode (blocks (length text / 16) text))

-- a mode that goes on as `next` after the first blocks
pub two_parts : (mode next : List (List ℕ) → List (List ℕ)) (a b : List ℕ) → length a % 16 ≡ 0
    → ((bs : List (List ℕ)) → mode (blocks (length a / 16) a ++ bs) ≡ mode (blocks (length a / 16) a) ++ next bs)
    → by_blocks mode (a ++ b) ≡ by_blocks mode a ++ by_blocks next b
unfolding by_blocks
two_parts mode next a b whole goes_on =
    let k : ℕ = length a / 16 in
    let m : ℕ = length b / 16 in
    let count : length (a ++ b) / 16 ≡ k + m = omega (arith, length-append a b) in
    ap (λ (n : ℕ). joined (mode (blocks n (a ++ b)))) count
    ∙ ap (λ (bs : List (List ℕ)). joined (mode bs)) (blocks-append k m a b (omega arith))
    ∙ ap joined (goes_on (blocks m b)) ∙ flat_map-append (λ (l : List ℕ). l) (mode (blocks k a)) (next (blocks m b))

-- a mode that leaves as many blocks, each of 16 bytes
pub length-by_blocks : (mode : List (List ℕ) → List (List ℕ)) (text : List ℕ) → length text % 16 ≡ 0
    → (let bs : List (List ℕ) = blocks (length text / 16) text in EachLong (mode bs) × (length (mode bs) ≡ length bs)) → length (by_blocks mode text) ≡ length text
unfolding by_blocks
length-by_blocks mode text whole h =
    let n : ℕ = length text / 16 in
    omega (arith, length-joined (mode (blocks n text)) h.0, h.1, length-blocks n text)

-- ---- the last block

-- or what the blocks are chained with where there are none
abbrev pub last_of : List ℕ → List (List ℕ) → List ℕ
last_of chain [] = chain
last_of chain (b ∷ bs) = last_of b bs

-- as the end of the joined blocks
pub last_joined : (iv : List ℕ) (bs : List (List ℕ)) → length iv ≡ 16 → EachLong bs → last_ciphertext_block iv (joined bs) ≡ last_of iv bs
last_joined iv [] long h = append-nil iv
last_joined iv (b ∷ bs) long h =
    let rest : List ℕ = joined bs in
    let count : length (b ++ rest) ≡ 16 + length rest = omega (arith, length-append b rest, h.0) in
    ap (λ (n : ℕ). drop n (iv ++ (b ++ rest))) count ∙ sym (drop-drop (length rest) 16 (iv ++ (b ++ rest)))
    ∙ ap (drop (length rest)) (drop_at iv (b ++ rest) 16 long) ∙ last_joined b bs h.0 h.1

-- the last block of two parts
pub last_twice : (chain a b : List ℕ) → last_ciphertext_block chain (a ++ b) ≡ last_ciphertext_block (last_ciphertext_block chain a) b
last_twice chain a b =
    let front : List ℕ = chain ++ a in
    ap₂ (λ (n : ℕ) (l : List ℕ). drop n l) (length-append a b) (sym (append_assoc chain a b))
    ∙ sym (drop-drop (length b) (length a) (front ++ b))
    ∙ ap (drop (length b)) (drop-append-le (length a) front b (omega (arith, length-append chain a)))

-- ---- the modes

module _ (e : List ℕ → List ℕ) where
  pub cbc_on : (iv : List ℕ) (xs ys : List (List ℕ)) → cbc_blocks e iv (xs ++ ys) ≡ cbc_blocks e iv xs ++ cbc_blocks e (last_of iv (cbc_blocks e iv xs)) ys
  unfolding cbc_blocks
  cbc_on iv [] ys = refl
  cbc_on iv (x ∷ xs) ys = ap (λ (l : List (List ℕ)). e (xor_bytes x iv) ∷ l) (cbc_on (e (xor_bytes x iv)) xs ys)

  pub cbc_plain_on : (iv : List ℕ) (xs ys : List (List ℕ)) → cbc_plain_blocks e iv (xs ++ ys) ≡ cbc_plain_blocks e iv xs ++ cbc_plain_blocks e (last_of iv xs) ys
  unfolding cbc_plain_blocks
  cbc_plain_on iv [] ys = refl
  cbc_plain_on iv (x ∷ xs) ys = ap (λ (l : List (List ℕ)). xor_bytes (e x) iv ∷ l) (cbc_plain_on x xs ys)

  -- where each list is enciphered to 16 bytes
  module _ (long : (b : List ℕ) → length (e b) ≡ 16) where
    pub ecb-long : (bs : List (List ℕ)) → EachLong (map e bs) × (length (map e bs) ≡ length bs)
    ecb-long [] = (tt, refl)
    ecb-long (b ∷ bs) = ((long b, (ecb-long bs).0), ap suc (ecb-long bs).1)

    pub cbc-long : (iv : List ℕ) (bs : List (List ℕ)) → EachLong (cbc_blocks e iv bs) × (length (cbc_blocks e iv bs) ≡ length bs)
    unfolding cbc_blocks
    cbc-long iv [] = (tt, refl)
    cbc-long iv (b ∷ bs) =
        let c : List ℕ = e (xor_bytes b iv) in
        ((long (xor_bytes b iv), (cbc-long c bs).0), ap suc (cbc-long c bs).1)

    pub cbc_plain-long : (iv : List ℕ) (bs : List (List ℕ)) → length iv ≡ 16 → EachLong bs → EachLong (cbc_plain_blocks e iv bs) × (length (cbc_plain_blocks e iv bs) ≡ length bs)
    unfolding cbc_plain_blocks
    cbc_plain-long iv [] v h = (tt, refl)
    cbc_plain-long iv (b ∷ bs) v h =
        let rest : EachLong (cbc_plain_blocks e b bs) × (length (cbc_plain_blocks e b bs) ≡ length bs) = cbc_plain-long b bs h.0 h.1 in
        ((omega (arith, length-xor_bytes (e b) iv, long b), rest.0), ap suc rest.1)
