-- A text in CTR mode, piece by piece.
use Rattle.std.proofs.Common.{List, [], ap, ap₂, arith, bit_xor, drop, length, min, refl, slice_index, suc, sym, take, ℕ, ◌%◌, ◌*◌, ◌++◌, ◌+◌, ◌-◌, ◌/◌, ◌<◌, ◌^◌, ◌∙◌, ◌∷◌, ◌≡◌, ◌≤◌}
use Rattle.secure_element_calls.proofs.Common.{aes_encrypt, append-nil, block_number, ctr_xor, drop_all, drop_min, number_block, number_of_block, take_all, take_min}
use borrow.Rule.Slice.PartMut.{put_mid}
use Rattle.aead_streams.specs.{declared.counter_width.CounterWidth.TheVariants.Whole, Counters.byte_of_stream, Counters.stream_block, Counters.text_xor}
use Rattle.aead_streams.proofs.{ModeStreams.aes_keeps_length, ModeStreams.ctr_is, StreamPlaces.run_done}

-- the stream from a later counter block on
later_byte : (e : List ℕ → List ℕ) (start counter m j : ℕ) → counter ≡ (start + m) % 2 ^ 128 → byte_of_stream e Whole counter j ≡ byte_of_stream e Whole start (16 * m + j)
unfolding byte_of_stream stream_block
later_byte e start counter m j at =
    let block : (counter + j / 16) % 2 ^ 128 ≡ (start + (16 * m + j) / 16) % 2 ^ 128 = omega arith in
    let place : j % 16 ≡ (16 * m + j) % 16 = omega arith in
    ap₂ (λ (b i : ℕ). slice_index (e (number_block b)) i) block place

later_stream : (e : List ℕ → List ℕ) (start counter m j : ℕ) (text : List ℕ) → counter ≡ (start + m) % 2 ^ 128 → text_xor e Whole counter j text ≡ text_xor e Whole start (16 * m + j) text
unfolding text_xor
later_stream e start counter m j [] at = refl
later_stream e start counter m j (x ∷ xs) at =
    let place : 16 * m + suc j ≡ suc (16 * m + j) = omega arith in
    ap₂ (λ (b : ℕ) (l : List ℕ). bit_xor x b ∷ l) (later_byte e start counter m j at)
    (later_stream e start counter m (suc j) xs at ∙ ap (λ k. text_xor e Whole start k xs) place)

-- CTR from a later counter block on
piece_is : (key : List ℕ) (start counter m : ℕ) (piece : List ℕ) → counter < 2 ^ 128 → counter ≡ (start + m) % 2 ^ 128 →
    ctr_xor (aes_encrypt key) (number_block counter) piece ≡ text_xor (aes_encrypt key) Whole start (16 * m) piece
piece_is key start counter m piece below at =
    let e : List ℕ → List ℕ = aes_encrypt key in
    ctr_is e (aes_keeps_length key) (number_block counter) piece
    ∙ ap (λ s. text_xor e Whole s 0 piece) (number_of_block counter below)
    ∙ later_stream e start counter m 0 piece at ∙ ap (λ k. text_xor e Whole start k piece) (omega arith)

-- the first so many bytes of a text are done
abbrev pub done_to : (key : List ℕ) (start n : ℕ) (text : List ℕ) → List ℕ
done_to key start n text = text_xor (aes_encrypt key) Whole start 0 (take n text) ++ drop n text

pub none_done : (key : List ℕ) (start : ℕ) (text : List ℕ) → text ≡ done_to key start 0 text
unfolding text_xor
none_done key start text = refl

-- one more piece
pub next_piece : (key : List ℕ) (start counter n b : ℕ) (whole now piece : List ℕ) → counter < 2 ^ 128 → counter ≡ (start + 16 * n) % 2 ^ 128 → 256 * n ≤ length whole →
    length now ≡ length whole → b ≡ min (length now) (256 * n + 256) → now ≡ done_to key start (256 * n) whole →
    piece ≡ ctr_xor (aes_encrypt key) (number_block counter) (take (b - 256 * n) (drop (256 * n) now)) →
    put_mid (256 * n) (b - 256 * n) now piece ≡ done_to key start (256 * (n + 1)) whole
next_piece key start counter n b whole now piece below at inside same end before is =
    let e : List ℕ → List ℕ = aes_encrypt key in
    let a : ℕ = 256 * n in
    let k : ℕ = b - a in
    let place : 16 * (16 * n) ≡ 0 + a = omega arith in
    let given : piece ≡ text_xor e Whole start (0 + a) (take k (drop a now)) =
    is ∙ piece_is key start counter (16 * n) (take k (drop a now)) below at ∙ ap (λ j. text_xor e Whole start j (take k (drop a now))) place in
    let to : a + k ≡ min (256 * (n + 1)) (length whole) = omega arith in
    run_done e Whole start 0 whole now (piece ++ drop k (drop a now)) a k inside before (ap (λ (l : List ℕ). l ++ drop k (drop a now)) given)
    ∙ ap (λ j. done_to key start j whole) to
    ∙ ap₂ (λ (p q : List ℕ). text_xor e Whole start 0 p ++ q) (take_min (256 * (n + 1)) whole) (drop_min (256 * (n + 1)) whole)

pub all_done : (key iv : List ℕ) (n : ℕ) (whole now : List ℕ) → length whole ≤ 256 * n → now ≡ done_to key (block_number iv) (256 * n) whole → now ≡ ctr_xor (aes_encrypt key) iv whole
all_done key iv n whole now all before =
    let e : List ℕ → List ℕ = aes_encrypt key in
    before ∙ ap₂ (λ (p q : List ℕ). text_xor e Whole (block_number iv) 0 p ++ q) (take_all (256 * n) whole all) (drop_all (256 * n) whole all)
    ∙ append-nil _ ∙ sym (ctr_is e (aes_keeps_length key) iv whole)
