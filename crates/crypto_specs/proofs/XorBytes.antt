-- Laws of xor_bytes.
use Rattle.std.proofs.{Common.List, Common.[], Common.ap, Common.append_assoc, Common.ap₂, Common.arith, Common.bit_xor, Common.drop, Common.length, Common.min, Common.refl, Common.slice_index, Common.slice_set, Common.suc, Common.sym, Common.take, Common.zero, Common.ℕ, Common.◌*◌, Common.◌++◌, Common.◌+◌, Common.◌-◌, Common.◌<◌, Common.◌∙◌, Common.◌∷◌, Common.◌≡◌, Common.◌≤◌, Math.Seq.take-add}
use Rattle.crypto_specs.proofs.Common.{append-nil, drop-drop, drop_all, drop_at, drop_min, length-drop, length-take, take_all, take_at, take_min, xor_assoc, xor_bytes, xor_self, xor_zero_r}
use borrow.Rule.Slice.PartMut.{put_mid}

-- one more byte xored in place
pub xor_bytes_next : (text mask : List ℕ) (i : ℕ) → i < length text → i < length mask
    → let now : List ℕ = xor_bytes (take i text) mask ++ drop i text in slice_set now i (bit_xor (slice_index now i) (slice_index mask i)) ≡ xor_bytes (take (suc i) text) mask ++ drop (suc i) text
xor_bytes_next [] mask i h k = absurd (omega arith)
xor_bytes_next (x ∷ xs) [] i h k = absurd (omega arith)
xor_bytes_next (x ∷ xs) (m ∷ ms) zero h k = refl
xor_bytes_next (x ∷ xs) (m ∷ ms) (suc i) h k = ap (λ (l : List ℕ). bit_xor x m ∷ l) (xor_bytes_next xs ms i (omega arith) (omega arith))

pub length-xor_bytes : (xs ys : List ℕ) → length (xor_bytes xs ys) ≡ min (length xs) (length ys)
length-xor_bytes [] ys = omega arith
length-xor_bytes (x ∷ xs) [] = omega arith
length-xor_bytes (x ∷ xs) (y ∷ ys) = omega (arith, length-xor_bytes xs ys)

-- the second list xored in twice
pub xor_bytes_twice : (xs ys : List ℕ) → length xs ≤ length ys → xor_bytes (xor_bytes xs ys) ys ≡ xs
xor_bytes_twice [] ys h = refl
xor_bytes_twice (x ∷ xs) [] h = absurd (omega arith)
xor_bytes_twice (x ∷ xs) (y ∷ ys) h =
    ap₂ (λ (z : ℕ) (zs : List ℕ). z ∷ zs) (xor_assoc x y y ∙ ap (bit_xor x) (xor_self y) ∙ xor_zero_r x) (xor_bytes_twice xs ys (omega arith))

-- lists in two parts, of which the first are as long
pub xor_bytes-append : (ps bs cs ds : List ℕ) → length ps ≡ length cs → xor_bytes (ps ++ bs) (cs ++ ds) ≡ xor_bytes ps cs ++ xor_bytes bs ds
xor_bytes-append [] bs [] ds h = refl
xor_bytes-append [] bs (c ∷ cs) ds h = absurd (omega arith)
xor_bytes-append (a ∷ ps) bs [] ds h = absurd (omega arith)
xor_bytes-append (a ∷ ps) bs (c ∷ cs) ds h = ap (λ (l : List ℕ). bit_xor a c ∷ l) (xor_bytes-append ps bs cs ds (omega arith))

-- a part past the other list counts for nothing
pub xor_bytes_to_end : (ps cs ds : List ℕ) → length ps ≤ length cs → xor_bytes ps (cs ++ ds) ≡ xor_bytes ps cs
xor_bytes_to_end [] cs ds h = refl
xor_bytes_to_end (a ∷ ps) [] ds h = absurd (omega arith)
xor_bytes_to_end (a ∷ ps) (c ∷ cs) ds h = ap (λ (l : List ℕ). bit_xor a c ∷ l) (xor_bytes_to_end ps cs ds (omega arith))

-- the next block of a text, xored in place with the next block of a stream
pub next_block_xored : (t0 t piece ks block : List ℕ) (n b : ℕ) → length ks ≡ 16 * n → 16 * n ≤ length t0 → length t ≡ length t0 → b ≡ min (length t) (16 * n + 16)
    → t ≡ xor_bytes (take (16 * n) t0) ks ++ drop (16 * n) t0 → piece ≡ xor_bytes (take (b - 16 * n) (drop (16 * n) t)) block
    → put_mid (16 * n) (b - 16 * n) t piece ≡ xor_bytes (take (16 * (n + 1)) t0) (ks ++ block) ++ drop (16 * (n + 1)) t0
next_block_xored t0 t piece ks block n b lks le len eb et ep =
    let a : ℕ = 16 * n in
    let x : List ℕ = xor_bytes (take a t0) ks in
    let d : List ℕ = drop a t0 in
    let ltake : length (take a t0) ≡ a = omega (arith, length-take a t0) in
    let lx : length x ≡ a = omega (arith, length-xor_bytes (take a t0) ks) in
    let ld : length d ≡ length t0 - a = length-drop a t0 in
    let front : take a t ≡ x = ap (take a) et ∙ take_at x d a lx in
    let back : drop a t ≡ d = ap (drop a) et ∙ drop_at x d a lx in
    let k : b - a ≡ min 16 (length d) = omega arith in
    let kept : take (b - a) d ≡ take 16 d = ap (λ (n : ℕ). take n d) k ∙ take_min 16 d in
    let left : drop (b - a) d ≡ drop 16 d = ap (λ (n : ℕ). drop n d) k ∙ drop_min 16 d in
    let now : piece ≡ xor_bytes (take 16 d) block = ep ∙ ap (λ (l : List ℕ). xor_bytes l block) (ap (take (b - a)) back ∙ kept) in
    let next : 16 * (n + 1) ≡ a + 16 = omega arith in
    let taken : take (16 * (n + 1)) t0 ≡ take a t0 ++ take 16 d = ap (λ (n : ℕ). take n t0) next ∙ take-add a 16 t0 in
    let dropped : drop (16 * (n + 1)) t0 ≡ drop 16 d = ap (λ (n : ℕ). drop n t0) next ∙ sym (drop-drop 16 a t0) in
    let both : xor_bytes (take (16 * (n + 1)) t0) (ks ++ block) ≡ x ++ xor_bytes (take 16 d) block = ap (λ (l : List ℕ). xor_bytes l (ks ++ block)) taken ∙ xor_bytes-append (take a t0) (take 16 d) ks block (ltake ∙ sym lks) in
    ap₂ (λ (p q : List ℕ). p ++ q) front (ap₂ (λ (p q : List ℕ). p ++ q) now (ap (drop (b - a)) back ∙ left))
    ∙ sym (ap₂ (λ (p q : List ℕ). p ++ q) both dropped ∙ append_assoc x (xor_bytes (take 16 d) block) (drop 16 d))

pub blocks_xored : (t0 t ks : List ℕ) (n : ℕ) → length t0 ≤ 16 * n → t ≡ xor_bytes (take (16 * n) t0) ks ++ drop (16 * n) t0 → t ≡ xor_bytes t0 ks
blocks_xored t0 t ks n all et =
    et ∙ ap₂ (λ (p q : List ℕ). xor_bytes p ks ++ q) (take_all (16 * n) t0 all) (drop_all (16 * n) t0 all) ∙ append-nil (xor_bytes t0 ks)
