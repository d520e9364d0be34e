-- A key stream's place, one block and one piece on.
use Rattle.aead_streams.proofs.Common.{CounterWidth, IsAt, KeyStream, List, Low32, Whole, ap, append_assoc, ap₂, arith, byte_of_stream, counter_at, drop, drop-drop, drop_at, get_or-drop, increased, length, length-drop, length-take, number_block, rules, slice_index, stream_block, sym, take, take-add, take_at, text_xor, xor_bytes, ℕ, ◌%◌, ◌++◌, ◌+◌, ◌-◌, ◌/◌, ◌<◌, ◌^◌, ◌∙◌, ◌≡◌, ◌≤◌}
use Rattle.aead_streams.proofs.StreamLaws.{by_byte, text_xor-append, length-text_xor}

start_counted : (width : CounterWidth) (start : ℕ) → start < 2 ^ 128 → start ≡ counter_at width start 0
unfolding increased
start_counted Whole start h = omega arith
start_counted Low32 start h = omega arith

next_counted : (width : CounterWidth) (start n c : ℕ) → c ≡ counter_at width start n → counter_at width c 1 ≡ counter_at width start (n + 1)
unfolding increased
next_counted Whole start n c e = omega arith
next_counted Low32 start n c e = omega arith

pub started : (s : KeyStream) (e : List ℕ → List ℕ) (width : CounterWidth) (start : ℕ) → s.width ≡ width → s.counter ≡ start → start < 2 ^ 128 → s.used ≡ 16 → IsAt s e width start 0
started s e width start w c h u = record {
  blocks = 0;
  counts = w;
  counter = c ∙ start_counted width start h;
  place = omega arith;
  used = omega arith;
  block = λ lt. absurd (omega arith);
}

pub refilled : (s t : KeyStream) (e : List ℕ → List ℕ) (width : CounterWidth) (start n : ℕ) → s.used ≡ 16 → IsAt s e width start n → t.width ≡ s.width → t.used ≡ 0
    → t.counter ≡ counter_at s.width s.counter 1 → t.block ≡ e (number_block s.counter) → IsAt t e width start n
unfolding stream_block
refilled s t e width start n u h ew eu ec eb = record {
  blocks = h.blocks + 1;
  counts = ew ∙ h.counts;
  counter = ec ∙ ap (λ (w : CounterWidth). counter_at w s.counter 1) h.counts ∙ next_counted width start h.blocks s.counter h.counter;
  place = omega (arith, h.place);
  used = omega arith;
  block = λ lt. eb ∙ ap (λ (c : ℕ). e (number_block c)) (h.counter ∙ ap (counter_at width start) (omega arith));
}

-- what is left of the block is the stream from the place on
pub piece_is : (s : KeyStream) (e : List ℕ → List ℕ) (width : CounterWidth) (start n : ℕ) (piece : List ℕ) → ((b : List ℕ) → length (e b) ≡ 16) → s.used < 16 → s.used + length piece ≤ 16 → IsAt s e width start n
    → xor_bytes piece (drop s.used s.block) ≡ text_xor e width start n piece
unfolding byte_of_stream stream_block
piece_is s e width start n piece long lt fits h =
    let whole : length s.block ≡ 16 = ap length (h.block lt) ∙ long (number_block (counter_at width start (h.blocks - 1))) in
    by_byte e width start piece (drop s.used s.block) n (omega (arith, length-drop s.used s.block)) (λ i below.
    let row : h.blocks - 1 ≡ (n + i) / 16 = omega (arith, h.place) in
    let place : s.used + i ≡ (n + i) % 16 = omega (arith, h.place) in
    get_or-drop s.used s.block i 0 ∙ ap₂ slice_index (h.block lt ∙ ap (stream_block e width start) row) place)

pub moved : (s t : KeyStream) (e : List ℕ → List ℕ) (width : CounterWidth) (start n k : ℕ) → s.used < 16 → IsAt s e width start n → t.width ≡ s.width → t.counter ≡ s.counter → t.block ≡ s.block
    → t.used ≡ s.used + k → s.used + k ≤ 16 → IsAt t e width start (n + k)
moved s t e width start n k lt h ew ec eb eu le = search rules

-- a block of a text, and the next block of the stream, of which none is kept
pub block_is : (s : KeyStream) (e : List ℕ → List ℕ) (width : CounterWidth) (start n : ℕ) (block : List ℕ) → ((b : List ℕ) → length (e b) ≡ 16) → s.used ≡ 16 → length block ≡ 16 → IsAt s e width start n
    → xor_bytes block (e (number_block s.counter)) ≡ text_xor e width start n block
unfolding byte_of_stream stream_block
block_is s e width start n block long used whole h =
    by_byte e width start block (e (number_block s.counter)) n (omega (arith, long (number_block s.counter))) (λ i below.
    let row : h.blocks ≡ (n + i) / 16 = omega (arith, h.place) in
    let place : i ≡ (n + i) % 16 = omega (arith, h.place) in
    ap₂ slice_index (ap (λ (c : ℕ). e (number_block c)) h.counter ∙ ap (stream_block e width start) row) place)

pub block_on : (s t : KeyStream) (e : List ℕ → List ℕ) (width : CounterWidth) (start n : ℕ) → s.used ≡ 16 → IsAt s e width start n → t.width ≡ s.width → t.used ≡ 16
    → t.counter ≡ counter_at s.width s.counter 1 → IsAt t e width start (n + 16)
block_on s t e width start n u h ew eu ec = record {
  blocks = h.blocks + 1;
  counts = ew ∙ h.counts;
  counter = ec ∙ ap (λ (w : CounterWidth). counter_at w s.counter 1) h.counts ∙ next_counted width start h.blocks s.counter h.counter;
  place = omega (arith, h.place);
  used = omega arith;
  block = λ lt. absurd (omega arith);
}

-- a further run of a piece, in place
pub run_done : (e : List ℕ → List ℕ) (width : CounterWidth) (start n : ℕ) (whole now out : List ℕ) (done k : ℕ) → done ≤ length whole
    → now ≡ text_xor e width start n (take done whole) ++ drop done whole
    → out ≡ text_xor e width start (n + done) (take k (drop done now)) ++ drop k (drop done now)
    → take done now ++ out ≡ text_xor e width start n (take (done + k) whole) ++ drop (done + k) whole
run_done e width start n whole now out done k le en eo =
    let x : List ℕ = text_xor e width start n (take done whole) in
    let d : List ℕ = drop done whole in
    let front : length (take done whole) ≡ done = omega (arith, length-take done whole) in
    let long : length x ≡ done = length-text_xor e width start n (take done whole) ∙ front in
    let kept : take done now ≡ x = ap (take done) en ∙ take_at x d done long in
    let left : drop done now ≡ d = ap (drop done) en ∙ drop_at x d done long in
    let more : text_xor e width start n (take (done + k) whole) ≡ x ++ text_xor e width start (n + done) (take k d) =
    ap (text_xor e width start n) (take-add done k whole) ∙ text_xor-append e width start (take done whole) (take k d) n
    ∙ ap (λ (m : ℕ). x ++ text_xor e width start (n + m) (take k d)) front in
    ap₂ (λ (p q : List ℕ). p ++ q) kept (eo ∙ ap (λ (l : List ℕ). text_xor e width start (n + done) (take k l) ++ drop k l) left)
    ∙ sym (ap₂ (λ (p q : List ℕ). p ++ q) more (sym (drop-drop k done whole)) ∙ append_assoc x (text_xor e width start (n + done) (take k d)) (drop k d))
