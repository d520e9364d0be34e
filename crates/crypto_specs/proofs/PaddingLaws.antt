-- PKCS#7: unpadding undoes padding, and only that.
use Rattle.std.proofs.Common.{Bool, List, None, Option, Some, ap, ap₂, arith, bytes_eq, cond, drop, false, length, nat_le, refl, replicate, slice_index, sym, take, true, ℕ, ◌%◌, ◌&&◌, ◌++◌, ◌+◌, ◌-◌, ◌∙◌, ◌≡◌, ◌≤◌}
use Rattle.crypto_specs.proofs.Common.{and_from, and_parts, bytes_eq-Decides, drop_at, get_or-append_right, get_or-replicate, le-leb, leb-true, length-append, length-drop, length-replicate, OnlyPaddedTextsUnpad, PaddingFillsBlocks, pkcs7_padded, pkcs7_unpadded, take-append-drop, take_at, UnpaddingUndoesPadding}

-- the text from place n on is p bytes of value p, where p is 1 to 16
abbrev is_padding : List ℕ → ℕ → ℕ → Bool
is_padding text p n = nat_le 1 p && nat_le p 16 && bytes_eq (drop n text) (replicate p p)

unpadded_at : List ℕ → ℕ → ℕ → Option (List ℕ)
unpadded_at text p n = cond (is_padding text p n) (Some (take n text)) None

unpadded_is : (text : List ℕ) → (let p : ℕ = slice_index text (length text - 1) in pkcs7_unpadded text ≡ unpadded_at text p (length text - p))
unfolding pkcs7_unpadded unpadded_at
unpadded_is text = refl

record IsPadding (text : List ℕ) (p n : ℕ) : Type 0 where
  above : 1 ≤ p
  below : p ≤ 16
  same : drop n text ≡ replicate p p

padding_told : (text : List ℕ) (p n : ℕ) → is_padding text p n ≡ true → IsPadding text p n
padding_told text p n h =
    let all : ((nat_le 1 p && nat_le p 16) ≡ true) × (bytes_eq (drop n text) (replicate p p) ≡ true) = and_parts (nat_le 1 p && nat_le p 16) (bytes_eq (drop n text) (replicate p p)) h in
    let bounds : (nat_le 1 p ≡ true) × (nat_le p 16 ≡ true) = and_parts (nat_le 1 p) (nat_le p 16) all.0 in
    record {
      above = leb-true 1 p bounds.0;
      below = leb-true p 16 bounds.1;
      same = (bytes_eq-Decides (drop n text) (replicate p p)).0 all.1;
    }

padding_tells : (text : List ℕ) (p n : ℕ) → IsPadding text p n → is_padding text p n ≡ true
padding_tells text p n h =
    and_from (nat_le 1 p && nat_le p 16) (bytes_eq (drop n text) (replicate p p))
    (and_from (nat_le 1 p) (nat_le p 16) (le-leb 1 p h.above) (le-leb p 16 h.below)) ((bytes_eq-Decides (drop n text) (replicate p p)).1 h.same)

pub padding_fills_blocks : PaddingFillsBlocks
unfolding pkcs7_padded
padding_fills_blocks m =
    let p : ℕ = 16 - length m % 16 in
    let long : length (m ++ replicate p p) ≡ length m + p = length-append m (replicate p p) ∙ ap (λ (n : ℕ). length m + n) (length-replicate p p) in
    (omega arith, (omega arith, omega arith))

pub unpadding_undoes_padding : UnpaddingUndoesPadding
unfolding pkcs7_padded unpadded_at
unpadding_undoes_padding m =
    let p : ℕ = 16 - length m % 16 in
    let text : List ℕ = m ++ replicate p p in
    let long : length text ≡ length m + p = length-append m (replicate p p) ∙ ap (λ (n : ℕ). length m + n) (length-replicate p p) in
    let last : slice_index text (length text - 1) ≡ p =
    get_or-append_right m (replicate p p) (length m) (length text - 1) 0 refl (omega arith) ∙ get_or-replicate p (length text - 1 - length m) p 0 (omega arith) in
    let front : length text - p ≡ length m = omega arith in
    let test : is_padding text p (length m) ≡ true =
    padding_tells text p (length m) (record { above = omega arith; below = omega arith; same = drop_at m (replicate p p) (length m) refl }) in
    unpadded_is text ∙ ap (λ (q : ℕ). unpadded_at text q (length text - q)) last ∙ ap (unpadded_at text p) front
    ∙ ap (λ (b : Bool). cond b (Some (take (length m) text)) None) test ∙ ap (λ (l : List ℕ). Some l) (take_at m (replicate p p) (length m) refl)

-- what an answer tells: the test, and what was kept
told : (b : Bool) (kept message : List ℕ) → cond b (Some kept) None ≡ Some message → (b ≡ true) × (kept ≡ message)
told true kept message h = (refl, cc)
told false kept message h = cc

pub only_padded_texts_unpad : OnlyPaddedTextsUnpad
unfolding pkcs7_padded unpadded_at
only_padded_texts_unpad text message whole h =
    let p : ℕ = slice_index text (length text - 1) in
    let n : ℕ = length text - p in
    let facts : (is_padding text p n ≡ true) × (take n text ≡ message) = told (is_padding text p n) (take n text) message (sym (unpadded_is text) ∙ h) in
    let is : IsPadding text p n = padding_told text p n facts.0 in
    let above : 1 ≤ p = is.above in
    let below : p ≤ 16 = is.below in
    let back : length text - n ≡ p = sym (length-drop n text) ∙ ap length is.same ∙ length-replicate p p in
    let cut : length message + p ≡ length text =
    ap₂ (λ (a b : ℕ). a + b) (ap length (sym facts.1)) (sym (length-replicate p p) ∙ ap length (sym is.same)) ∙ sym (length-append (take n text) (drop n text)) ∙ ap length (take-append-drop n text) in
    let value : 16 - length message % 16 ≡ p = omega arith in
    ap (λ (q : ℕ). message ++ replicate q q) value ∙ ap₂ (λ (a b : List ℕ). a ++ b) (sym facts.1) (sym is.same) ∙ take-append-drop n text
