-- PKCS#7 padding of one block.
use Rattle.cipher_modes.proofs.Common.{Bool, List, None, Some, [], ap, append-nil, ap₂, arith, bytes_eq, cases_lt, cond, drop, drop_all, drop_at, get_or_at, inl, inr, le-leb, length, length-drop, length-take, lt-leb, nat_le, pkcs7_padded, pkcs7_unpadded, refl, replicate, slice_index, sym, take, take-append-drop, ℕ, ◌%◌, ◌&&◌, ◌++◌, ◌+◌, ◌-◌, ◌<◌, ◌∙◌, ◌≡◌, ◌≤◌, ◌⊎◌}
use Rattle.std.proofs.{lemmas.Bool.false_from_ne_true, lemmas.Slice.Eq.bytes_eq-Decides}

-- the room after the first bytes, filled
pub filled_to_end : (used : ℕ) (block filled : List ℕ) → length block ≡ 16 → used < 16 → filled ≡ replicate (length (take (16 - used) (drop used block))) (16 - used)
    → take used block ++ (filled ++ drop (16 - used) (drop used block)) ≡ pkcs7_padded (take used block)
unfolding pkcs7_padded
filled_to_end used block filled long h e =
    let front : length (take used block) ≡ used = omega (arith, length-take used block) in
    let count : 16 - used ≡ 16 - length (take used block) % 16 = omega arith in
    let room : length (drop used block) ≡ 16 - used = omega (arith, length-drop used block) in
    let size : length (take (16 - used) (drop used block)) ≡ 16 - used = omega (arith, length-take (16 - used) (drop used block)) in
    let nothing : drop (16 - used) (drop used block) ≡ [] = drop_all (16 - used) (drop used block) (omega arith) in
    ap (λ (l : List ℕ). take used block ++ l) (ap₂ (λ (l m : List ℕ). l ++ m) e nothing ∙ append-nil _ ∙ ap (λ (n : ℕ). replicate n (16 - used)) size)
    ∙ ap (λ (p : ℕ). take used block ++ replicate p p) count

-- by the three tests of the last byte p
unpadded : (block : List ℕ) (p : ℕ) → length block ≡ 16 → p ≡ slice_index block 15
    → pkcs7_unpadded block ≡ cond (nat_le 1 p && nat_le p 16 && bytes_eq (drop (16 - p) block) (replicate p p)) (Some (take (16 - p) block)) None
unfolding pkcs7_unpadded
unpadded block p long last = rw (long, last) refl

pub none_out_of_range : (block : List ℕ) (p : ℕ) → length block ≡ 16 → p ≡ slice_index block 15 → (p ≡ 0) ⊎ (16 < p) → pkcs7_unpadded block ≡ None
none_out_of_range block p long last (inl low) = unpadded block p long last ∙ rw (lt-leb 1 p (omega arith)) refl
none_out_of_range block p long last (inr high) =
    unpadded block p long last ∙ rw (le-leb 1 p (omega arith), lt-leb p 16 high) refl

-- a block's front, padded
padded_front : (block : List ℕ) (kept : ℕ) → length block ≡ 16 → kept < 16
    → pkcs7_padded (take kept block) ≡ take kept block ++ replicate (16 - kept) (16 - kept)
unfolding pkcs7_padded
padded_front block kept long h =
    let front : length (take kept block) ≡ kept = omega (arith, length-take kept block) in
    let count : 16 - length (take kept block) % 16 ≡ 16 - kept = omega arith in
    ap (λ (p : ℕ). take kept block ++ replicate p p) count

-- the padding that a last byte tells, in its own terms
padded_by : (block : List ℕ) (p kept : ℕ) → length block ≡ 16 → 1 ≤ p → kept + p ≡ 16 → pkcs7_padded (take kept block) ≡ take kept block ++ replicate p p
padded_by block p kept long low sum =
    padded_front block kept long (omega (arith, low, sum)) ∙ ap (λ (n : ℕ). take kept block ++ replicate n n) (omega (arith, sum))

-- where the last byte tells a padding, the end of the block decides
by_end : (block : List ℕ) (p kept : ℕ) → length block ≡ 16 → p ≡ slice_index block 15 → 1 ≤ p → p ≤ 16 → kept + p ≡ 16
    → pkcs7_unpadded block ≡ cond (bytes_eq (drop kept block) (replicate p p)) (Some (take kept block)) None
by_end block p kept long last low high sum =
    unpadded block p long last ∙ rw (le-leb 1 p low, le-leb p 16 high)
    (ap (λ (k : ℕ). cond (bytes_eq (drop k block) (replicate p p)) (Some (take k block)) None) (omega (arith, sum)))

-- a block whose last byte ends no padding isn't its front of 15 bytes, padded
ends_otherwise : (block : List ℕ) (p : ℕ) → length block ≡ 16 → p ≡ slice_index block 15 → (p ≡ 0) ⊎ (16 < p) → pkcs7_padded (take 15 block) ≡ block → ⊥
ends_otherwise block p long last other is =
    let front : length (take 15 block) ≡ 15 = omega (arith, length-take 15 block) in
    let one : slice_index block 15 ≡ 1 =
    sym (ap (λ (l : List ℕ). slice_index l 15) (sym (padded_front block 15 long (omega arith)) ∙ is)) ∙ get_or_at (take 15 block) 1 [] 0 15 front in
    elim other [
      | inl zero ↦ absurd (omega (arith, zero, last, one))
      | inr high ↦ absurd (omega (arith, high, last, one))
    ]

-- a block that is its front, padded, as its last byte tells
pub fits : (block : List ℕ) (p kept : ℕ) → length block ≡ 16 → p ≡ slice_index block 15
    → (1 ≤ p → p ≤ 16 → kept + p ≡ 16) → ((p ≡ 0) ⊎ (16 < p) → kept ≡ 15)
    → pkcs7_padded (take kept block) ≡ block → pkcs7_unpadded block ≡ Some (take kept block)
fits block p kept long last count other is = elim (cases_lt p 1) [
  | inl low ↦
      let none : (p ≡ 0) ⊎ (16 < p) = inl (omega (arith, low)) in
      absurd (ends_otherwise block p long last none (ap (λ (k : ℕ). pkcs7_padded (take k block)) (sym (other none)) ∙ is))
  | inr low ↦ elim (cases_lt 16 p) [
    | inl high ↦
        let none : (p ≡ 0) ⊎ (16 < p) = inr high in
        absurd (ends_otherwise block p long last none (ap (λ (k : ℕ). pkcs7_padded (take k block)) (sym (other none)) ∙ is))
    | inr high ↦
        let sum : kept + p ≡ 16 = count low high in
        let front : length (take kept block) ≡ kept = omega (arith, length-take kept block, sum) in
        let end : drop kept block ≡ replicate p p =
        ap (drop kept) (sym is ∙ padded_by block p kept long low sum) ∙ drop_at (take kept block) (replicate p p) kept front in
        by_end block p kept long last low high sum
        ∙ ap (λ (b : Bool). cond b (Some (take kept block)) None) ((bytes_eq-Decides (drop kept block) (replicate p p)).1 end)
  ]
]

-- and one that isn't
pub misfits : (block : List ℕ) (p kept : ℕ) → length block ≡ 16 → p ≡ slice_index block 15
    → (1 ≤ p → p ≤ 16 → kept + p ≡ 16) → (pkcs7_padded (take kept block) ≡ block → ⊥) → pkcs7_unpadded block ≡ None
misfits block p kept long last count not_is = elim (cases_lt p 1) [
  | inl low ↦ none_out_of_range block p long last (inl (omega (arith, low)))
  | inr low ↦ elim (cases_lt 16 p) [
    | inl high ↦ none_out_of_range block p long last (inr high)
    | inr high ↦
        let sum : kept + p ≡ 16 = count low high in
        let whole : drop kept block ≡ replicate p p → pkcs7_padded (take kept block) ≡ block = λ e.
        padded_by block p kept long low sum ∙ (ap (λ (l : List ℕ). take kept block ++ l) (sym e) ∙ take-append-drop kept block) in
        by_end block p kept long last low high sum
        ∙ ap (λ (b : Bool). cond b (Some (take kept block)) None)
        (false_from_ne_true (bytes_eq (drop kept block) (replicate p p)) (λ same. not_is (whole ((bytes_eq-Decides (drop kept block) (replicate p p)).0 same))))
  ]
]
