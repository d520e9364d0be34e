-- The steps of a hash of a text in pieces.
use Rattle.aead_streams.proofs.Common.{HasTaken, List, [], ap, append-nil, append_assoc, ap₂, arith, bit_xor, block_count, block_number, block_product, blocks, cases_lt, drop, drop-append-le, drop-drop, drop_all, ghash_from, inl, inr, length, length-append, length-drop, length-take, min, numbers_of, refl, rest_from, rules, subst, sym, take, take-append-drop, take_all, ℕ, ◌*◌, ◌++◌, ◌+◌, ◌-◌, ◌/◌, ◌<◌, ◌∙◌, ◌∷◌, ◌≡◌, ◌≤◌, ◌⊎◌}
use Rattle.aead_streams.specs.declared.text_hash.TextHash.{TextHash}
use Rattle.aead_streams.proofs.HashSteps.{rest-append, rest_split, one_block}

pub started : (s : TextHash) (h : ℕ) → s.ghash ≡ (h, 0) → s.buffer ≡ [] → HasTaken s h 0 []
unfolding ghash_from blocks
started s h is_ghash empty = search rules

-- a piece that fills no block is put into the buffer
pub put_more : (s t : TextHash) (h y : ℕ) (text piece : List ℕ) → t.ghash ≡ s.ghash → t.buffer ≡ s.buffer ++ piece → length t.buffer < 16
    → HasTaken s h y text → HasTaken t h y (text ++ piece)
put_more s t h y text piece same put less taken = record {
  count = taken.count;
  key = ap (λ (p : ℕ × ℕ). p.0) same ∙ taken.key;
  value = ap (λ (p : ℕ × ℕ). p.1) same ∙ taken.value ∙ sym (rest-append taken.count h y text piece taken.place);
  place = omega (arith, taken.place, length-append text piece);
  left = put ∙ ap (λ (l : List ℕ). l ++ piece) taken.left ∙ sym (drop-append-le (16 * taken.count) text piece taken.place);
  short = less;
}

-- a piece that fills a block
pub put_full : (s t : TextHash) (h y x : ℕ) (text piece block : List ℕ) → block ≡ s.buffer ++ piece → length block ≡ 16 → x ≡ block_number block
    → t.ghash ≡ (s.ghash.0, block_product (bit_xor s.ghash.1 x) s.ghash.0) → t.buffer ≡ [] → HasTaken s h y text → HasTaken t h y (text ++ piece)
put_full s t h y x text piece block put full number is_ghash empty taken =
    let n : ℕ = taken.count in
    let back : drop (16 * n) (text ++ piece) ≡ block =
    drop-append-le (16 * n) text piece taken.place ∙ ap (λ (l : List ℕ). l ++ piece) (sym taken.left) ∙ sym put in
    let ends : length (text ++ piece) ≡ 16 * (n + 1) = omega (arith, taken.place, length-drop (16 * n) (text ++ piece), ap length back, length-append text piece) in
    let whole : take 16 block ≡ block = take_all 16 block (omega arith) in
    record {
      count = n + 1;
      key = ap (λ (p : ℕ × ℕ). p.0) is_ghash ∙ taken.key;
      value =
          ap (λ (p : ℕ × ℕ). p.1) is_ghash
          ∙ ap₂ (λ (v k : ℕ). block_product (bit_xor v x) k) (taken.value ∙ sym (rest-append n h y text piece taken.place)) taken.key
          ∙ ap (λ (b : ℕ). block_product (bit_xor (rest_from h y n (text ++ piece)) b) h) (number ∙ ap block_number (sym whole))
          ∙ sym (rest_split n 1 h y (text ++ piece) ∙ ap (rest_from h (rest_from h y n (text ++ piece)) 1) back ∙ one_block h (rest_from h y n (text ++ piece)) block);
      place = omega arith;
      left = empty ∙ sym (drop_all (16 * (n + 1)) (text ++ piece) (omega arith));
      short = omega (arith, ap length empty);
    }

no_blocks : (h y : ℕ) (piece : List ℕ) → piece ≡ [] → ghash_from h y (numbers_of piece) ≡ y
unfolding numbers_of ghash_from blocks
no_blocks h y piece e = rw e refl

number_count : (h y n : ℕ) (piece : List ℕ) → block_count (length piece) ≡ n → ghash_from h y (numbers_of piece) ≡ rest_from h y n piece
unfolding numbers_of
number_count h y n piece e = ap (λ (k : ℕ). rest_from h y k piece) e

-- whole blocks are taken in where the buffer is empty
whole_blocks : (s t : TextHash) (h y n : ℕ) (text piece : List ℕ) → s.buffer ≡ [] → length piece ≡ 16 * n
    → t.ghash ≡ (s.ghash.0, ghash_from s.ghash.0 s.ghash.1 (numbers_of piece)) → t.buffer ≡ s.buffer → HasTaken s h y text → HasTaken t h y (text ++ piece)
whole_blocks s t h y n text piece empty long is_ghash same taken =
    let m : ℕ = taken.count in
    let none : drop (16 * m) text ≡ [] = sym taken.left ∙ empty in
    let back : drop (16 * m) (text ++ piece) ≡ piece = drop-append-le (16 * m) text piece taken.place ∙ ap (λ (l : List ℕ). l ++ piece) none in
    let ends : length (text ++ piece) ≡ 16 * (m + n) = omega (arith, taken.place, length-drop (16 * m) text, ap length none, length-append text piece) in
    record {
      count = m + n;
      key = ap (λ (p : ℕ × ℕ). p.0) is_ghash ∙ taken.key;
      value =
          ap (λ (p : ℕ × ℕ). p.1) is_ghash ∙ number_count s.ghash.0 s.ghash.1 n piece (omega arith)
          ∙ ap₂ (λ (k v : ℕ). rest_from k v n piece) taken.key (taken.value ∙ sym (rest-append m h y text piece taken.place))
          ∙ sym (rest_split m n h y (text ++ piece) ∙ ap (rest_from h (rest_from h y m (text ++ piece)) n) back);
      place = omega arith;
      left = same ∙ empty ∙ sym (drop_all (16 * (m + n)) (text ++ piece) (omega arith));
      short = omega (arith, ap length (same ∙ empty));
    }

nothing : (l : List ℕ) → length l ≡ 0 → l ≡ []
nothing [] h = refl
nothing (x ∷ xs) h = absurd (omega arith)

-- the whole blocks of a piece, if there are any
pub blocks_in : (s t : TextHash) (h y n : ℕ) (text piece : List ℕ) → (s.buffer ≡ []) ⊎ (n ≡ 0) → length piece ≡ 16 * n
    → t.ghash ≡ (s.ghash.0, ghash_from s.ghash.0 s.ghash.1 (numbers_of piece)) → t.buffer ≡ s.buffer → HasTaken s h y text → HasTaken t h y (text ++ piece)
blocks_in s t h y n text piece (inl empty) long is_ghash same taken = whole_blocks s t h y n text piece empty long is_ghash same taken
blocks_in s t h y n text piece (inr none) long is_ghash same taken =
    let is_nothing : piece ≡ [] = nothing piece (omega arith) in
    put_more record { ghash = (s.ghash.0, s.ghash.1); buffer = s.buffer } t h y text piece
    (is_ghash ∙ ap (λ (v : ℕ). (s.ghash.0, v)) (no_blocks s.ghash.0 s.ghash.1 piece is_nothing))
    (same ∙ sym (append-nil s.buffer) ∙ ap (λ (l : List ℕ). s.buffer ++ l) (sym is_nothing))
    (omega (arith, taken.short, ap length same))
    (record { count = taken.count; key = taken.key; value = taken.value; place = taken.place; left = taken.left; short = taken.short })

-- the end of a text: the buffer is empty, or is its last block
pub ended_whole : (s t : TextHash) (h y : ℕ) (text : List ℕ) → s.buffer ≡ [] → t.ghash ≡ s.ghash → t.buffer ≡ s.buffer → HasTaken s h y text
    → HasTaken t h (ghash_from h y (numbers_of text)) []
unfolding ghash_from blocks
ended_whole s t h y text empty same_ghash same taken =
    let count : block_count (length text) ≡ taken.count = omega (arith, taken.place, length-drop (16 * taken.count) text, ap length (sym taken.left ∙ empty)) in
    record {
      count = 0;
      key = ap (λ (p : ℕ × ℕ). p.0) same_ghash ∙ taken.key;
      value = ap (λ (p : ℕ × ℕ). p.1) same_ghash ∙ taken.value ∙ sym (number_count h y taken.count text count);
      place = omega arith;
      left = same ∙ empty;
      short = omega (arith, ap length (same ∙ empty));
    }

pub ended_filled : (s t : TextHash) (h y x : ℕ) (text : List ℕ) → (s.buffer ≡ [] → ⊥) → x ≡ block_number s.buffer
    → t.ghash ≡ (s.ghash.0, block_product (bit_xor s.ghash.1 x) s.ghash.0) → t.buffer ≡ [] → HasTaken s h y text
    → HasTaken t h (ghash_from h y (numbers_of text)) []
unfolding ghash_from blocks
ended_filled s t h y x text some number is_ghash empty taken =
    let n : ℕ = taken.count in
    let left_some : length s.buffer ≡ 0 → ⊥ = λ e. some (nothing s.buffer e) in
    let count : block_count (length text) ≡ n + 1 = omega (arith, taken.place, taken.short, left_some, length-drop (16 * n) text, ap length taken.left) in
    let whole : take 16 (drop (16 * n) text) ≡ s.buffer = take_all 16 (drop (16 * n) text) (omega (arith, taken.short, ap length taken.left)) ∙ sym taken.left in
    record {
      count = 0;
      key = ap (λ (p : ℕ × ℕ). p.0) is_ghash ∙ taken.key;
      value =
          ap (λ (p : ℕ × ℕ). p.1) is_ghash ∙ ap₂ (λ (v k : ℕ). block_product (bit_xor v x) k) taken.value taken.key
          ∙ ap (λ (b : ℕ). block_product (bit_xor (rest_from h y n text) b) h) (number ∙ ap block_number (sym whole))
          ∙ sym (number_count h y (n + 1) text count ∙ rest_split n 1 h y text ∙ one_block h (rest_from h y n text) (drop (16 * n) text));
      place = omega arith;
      left = empty;
      short = omega (arith, ap length empty);
    }

-- a piece's front, whole blocks and rest are the piece
parts : (a b : ℕ) (text piece : List ℕ) → a + b ≤ length piece → text ++ take a piece ++ take b (drop a piece) ++ drop (a + b) piece ≡ text ++ piece
parts a b text piece fits =
    let front : List ℕ = take a piece in
    let whole : List ℕ = take b (drop a piece) in
    append_assoc (text ++ front) whole (drop (a + b) piece)
    ∙ ap (λ (l : List ℕ). text ++ front ++ (whole ++ l)) (sym (drop-drop b a piece))
    ∙ ap (λ (l : List ℕ). text ++ front ++ l) (take-append-drop b (drop a piece))
    ∙ append_assoc text front (drop a piece) ∙ ap (λ (l : List ℕ). text ++ l) (take-append-drop a piece)

-- the rest of a piece fits into the buffer
rest_fits : (n room : ℕ) (rest : List ℕ) → n ≡ min (length rest) room → length rest ≤ room → take n rest ≡ rest
rest_fits n room rest count fits = take_all n rest (omega arith)

pub updated : (s t u : TextHash) (h y a b n : ℕ) (text piece whole rest : List ℕ) → a ≤ length piece → (a < length piece → s.buffer ≡ [])
    → t.ghash ≡ (s.ghash.0, ghash_from s.ghash.0 s.ghash.1 (numbers_of whole)) → t.buffer ≡ s.buffer
    → b ≡ (length piece - a) / 16 * 16 → whole ≡ take b (drop a piece) → rest ≡ drop (a + b) piece → n ≡ min (length rest) (16 - length s.buffer)
    → ((m : List ℕ) → HasTaken t h y m → HasTaken u h y (m ++ take n rest))
    → HasTaken s h y (text ++ take a piece) → HasTaken u h y (text ++ piece)
updated s t u h y a b n text piece whole rest within emptied is_ghash same is_b is_whole is_rest count last taken =
    let front : List ℕ = text ++ take a piece in
    let long : length whole ≡ 16 * (b / 16) = omega (arith, ap length is_whole, length-take b (drop a piece), length-drop a piece) in
    let size : length rest ≡ length piece - (a + b) = ap length is_rest ∙ length-drop (a + b) piece in
    let empty_or_none : (s.buffer ≡ []) ⊎ (b / 16 ≡ 0) = elim (cases_lt a (length piece)) [ inl less ↦ inl (emptied less) | inr more ↦ inr (omega arith) ] in
    let room : length rest ≤ 16 - length s.buffer = elim (cases_lt a (length piece)) [ inl less ↦ omega (arith, ap length (emptied less)) | inr more ↦ omega arith ] in
    let all : front ++ whole ++ take n rest ≡ text ++ piece =
    ap₂ (λ (w r : List ℕ). front ++ w ++ r) is_whole (rest_fits n (16 - length s.buffer) rest count room ∙ is_rest) ∙ parts a b text piece (omega arith) in
    subst (HasTaken u h y) all (last (front ++ whole) (blocks_in s t h y (b / 16) front whole empty_or_none long is_ghash same taken))
