-- A mode that takes a text block by block, in place.
use Rattle.cipher_modes.proofs.Common.{List, [], ap, append-nil, append_assoc, ap₂, arith, blocks, drop, drop-drop, joined, length, length-append, length-drop, length-take, suc, sym, take, take_all, ℕ, ◌%◌, ◌*◌, ◌++◌, ◌+◌, ◌-◌, ◌/◌, ◌<◌, ◌∙◌, ◌∷◌, ◌≡◌, ◌≤◌}
use Rattle.std.proofs.lemmas.Slice.{take-put_mid, drop-put_mid}
use borrow.Rule.Slice.PartMut.{put_mid}

-- the first n blocks as they are, and what the mode makes of the rest
abbrev pub mode_from : (List (List ℕ) → List (List ℕ)) → ℕ → List ℕ → List ℕ
mode_from mode n text = take (16 * n) text ++ joined (mode (blocks (length text / 16 - n) (drop (16 * n) text)))

length-put_mid : (a k : ℕ) (t c : List ℕ) → a + k ≤ length t → length c ≡ k → length (put_mid a k t c) ≡ length t
length-put_mid a k t c h e =
    omega (arith, length-append (take a t) (c ++ drop k (drop a t)), length-append c (drop k (drop a t)), length-take a t, length-drop k (drop a t), length-drop a t)

-- block n is done: the mode makes `out` of it, and goes on as `next`
pub block_done : (mode next : List (List ℕ) → List (List ℕ)) (text out : List ℕ) (n k : ℕ) → n < length text / 16 → k ≡ 16 → length out ≡ 16
    → ((rest : List (List ℕ)) → mode (take k (drop (16 * n) text) ∷ rest) ≡ out ∷ next rest)
    → mode_from next (n + 1) (put_mid (16 * n) k text out) ≡ mode_from mode n text
unfolding blocks
block_done mode next text out n k below k16 long does =
    let now : List ℕ = put_mid (16 * n) k text out in
    let rest : List ℕ = drop (16 * n) text in
    let m : ℕ = length text / 16 - (n + 1) in
    let same_length : length now ≡ length text = length-put_mid (16 * n) k text out (omega arith) (omega arith) in
    let more : length text / 16 - n ≡ suc m = omega arith in
    let place : 16 * (n + 1) ≡ 16 * n + 16 = omega arith in
    let front : take (16 * (n + 1)) now ≡ take (16 * n) text ++ out = take-put_mid (16 * n) k text out (16 * (n + 1)) (omega arith) (omega arith) in
    let back : drop (16 * (n + 1)) now ≡ drop 16 rest = drop-put_mid (16 * n) k text out (16 * (n + 1)) (omega arith) (omega arith) (omega arith) ∙ ap (λ (j : ℕ). drop j text) place ∙ sym (drop-drop 16 (16 * n) text) in
    let count : length now / 16 - (n + 1) ≡ m = ap (λ (l : ℕ). l / 16 - (n + 1)) same_length in
    ap₂ (λ (p : List ℕ) (q : List (List ℕ)). p ++ joined (next q)) front (ap₂ blocks count back)
    ∙ append_assoc (take (16 * n) text) out (joined (next (blocks m (drop 16 rest))))
    ∙ ap (λ (bs : List (List ℕ)). take (16 * n) text ++ joined bs) (sym (does (blocks m (drop 16 rest))) ∙ ap (λ (j : ℕ). mode (take j rest ∷ blocks m (drop 16 rest))) k16)
    ∙ ap (λ (j : ℕ). take (16 * n) text ++ joined (mode (blocks j rest))) (sym more)

pub all_done : (mode : List (List ℕ) → List (List ℕ)) (text : List ℕ) (n : ℕ) → mode [] ≡ [] → length text % 16 ≡ 0 → n ≡ length text / 16 → mode_from mode n text ≡ text
unfolding blocks
all_done mode text n empty whole end =
    let none : length text / 16 - n ≡ 0 = omega arith in
    ap₂ (λ (p : List ℕ) (j : ℕ). p ++ joined (mode (blocks j (drop (16 * n) text)))) (take_all (16 * n) text (omega arith)) none
    ∙ ap (λ (bs : List (List ℕ)). text ++ joined bs) empty ∙ append-nil text

pub none_done : (mode : List (List ℕ) → List (List ℕ)) (text : List ℕ) → mode_from mode 0 text ≡ joined (mode (blocks (length text / 16) text))
none_done mode text = ap (λ (j : ℕ). joined (mode (blocks j text))) (omega arith)
