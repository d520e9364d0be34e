-- Words drawn one after another.
use Rattle.random_streams.proofs.Common.{ChaCha, IsSoundGenerator, List, [], ap, ap₂, arith, bytes_of_words, key_of, next_word, random_bytes, seed_of, suc, to_le_bytes, w32, word_at, words_offered, words_used, zero, ℕ, ◌%◌, ◌++◌, ◌+◌, ◌^◌, ◌∙◌, ◌≡◌, ◌≤◌}
use Rattle.rand_core.specs.Steps as steps

abbrev pub at_place : ChaCha → ℕ → ChaCha
at_place g n = record g { word_pos = n }

pub drawn : (g : ChaCha) (seed : List ℕ) (n : ℕ) → g.key ≡ key_of seed → g.word_pos + n ≤ words_offered
    → steps.word_bytes (to_le_bytes w32) (next_word 10) n g ≡ (bytes_of_words seed g.stream g.word_pos n, at_place g (g.word_pos + n))
unfolding steps.word_bytes bytes_of_words
drawn g seed zero key fits = ap (λ (p : ℕ). ([], at_place g p)) (omega arith)
drawn g seed (suc n) key fits =
    let before = drawn g seed n key (omega arith) in
    let place : (g.word_pos + n + 1) % 2 ^ 68 ≡ g.word_pos + suc n = omega arith in
    let step : List ℕ × ChaCha → List ℕ × ChaCha = λ p. (p.0 ++ to_le_bytes w32 (next_word 10 p.1).0, (next_word 10 p.1).1) in
    ap step before
    ∙ ap₂ (λ (k : List ℕ) (p : ℕ). (bytes_of_words seed g.stream g.word_pos n ++ to_le_bytes w32 (word_at 10 k g.stream (g.word_pos + n)), at_place g p)) key place

pub still_sound : (g : ChaCha) (n : ℕ) → IsSoundGenerator g → n ≤ words_offered → IsSoundGenerator (at_place g n)
still_sound g n sound h = record { key = sound.key; place = h }

-- a buffer filled, and where the generator stands then
pub filled : (g after : ChaCha) (n : ℕ) (out : List ℕ) → IsSoundGenerator g → g.word_pos + words_used n ≤ words_offered → (out, after) ≡ steps.fill_via_u32 (next_word 10) n g
    → (out ≡ random_bytes (seed_of g.key) g.stream g.word_pos n) × (after ≡ at_place g (g.word_pos + words_used n))
filled g after n out sound fits e =
    let both = e ∙ ap (steps.first_bytes n) (drawn g (seed_of g.key) (words_used n) sound.key fits) in
    (ap (λ (p : List ℕ × ChaCha). p.0) both, ap (λ (p : List ℕ × ChaCha). p.1) both)

-- a place that was passed, set again
pub set_back : (g after : ChaCha) (n m : ℕ) → n ≤ words_offered → m ≡ n → after ≡ at_place g (m % 2 ^ 68) → after ≡ at_place g n
set_back g after n m h same e = e ∙ ap (at_place g) (omega arith)
