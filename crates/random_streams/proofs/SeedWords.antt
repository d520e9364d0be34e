-- The words of a seed give its bytes back.
use Rattle.random_streams.proofs.Common.{List, [], ap₂, arith, get_or, key_of, length, map, refl, seed_of, slice_index, suc, sym, to_le_bytes, u32_at, w32, zero, ℕ, ◌*◌, ◌++◌, ◌+◌, ◌<◌, ◌∙◌, ◌∷◌, ◌≡◌}
use Rattle.std.specs.List.{range_with_len}
use Rattle.std.proofs.{lemmas.Nat.le_bytes_4, lemmas.List.ext_get_or, lemmas.List.FromFn.length-map-range_with_len, lemmas.List.FromFn.get_or-map-range_with_len}

abbrev pub AreBytes : List ℕ → Type 0
AreBytes bs = (i : ℕ) → slice_index bs i < 256

four_bytes : (a b c d : ℕ) → a < 256 → b < 256 → c < 256 → d < 256 → (i : ℕ) → get_or (a ∷ b ∷ c ∷ d ∷ []) i 0 < 256
four_bytes a b c d ha hb hc hd zero = ha
four_bytes a b c d ha hb hc hd (suc zero) = hb
four_bytes a b c d ha hb hc hd (suc (suc zero)) = hc
four_bytes a b c d ha hb hc hd (suc (suc (suc zero))) = hd
four_bytes a b c d ha hb hc hd (suc (suc (suc (suc i)))) = omega arith

word_back : (seed : List ℕ) (i : ℕ) → AreBytes seed
    → to_le_bytes w32 (u32_at seed i) ≡ slice_index seed (4 * i) ∷ slice_index seed (4 * i + 1) ∷ slice_index seed (4 * i + 2) ∷ slice_index seed (4 * i + 3) ∷ []
unfolding u32_at
word_back seed i all =
    le_bytes_4 (slice_index seed (4 * i) ∷ slice_index seed (4 * i + 1) ∷ slice_index seed (4 * i + 2) ∷ slice_index seed (4 * i + 3) ∷ []) _ refl
    (four_bytes _ _ _ _ (all (4 * i)) (all (4 * i + 1)) (all (4 * i + 2)) (all (4 * i + 3))) (omega arith)

-- a list's elements, one by one
all_read : (b : List ℕ) (n : ℕ) → length b ≡ n → map (slice_index b) (range_with_len 0 n) ≡ b
all_read b n long =
    let read : List ℕ = map (slice_index b) (range_with_len 0 n) in
    let same : length read ≡ n = length-map-range_with_len (slice_index b) 0 n in
    ext_get_or 0 read b (same ∙ sym long) (λ i h. get_or-map-range_with_len (slice_index b) 0 n i i 0 (omega arith) (omega arith))

and_then : {a b c d : List ℕ} → a ≡ c → b ≡ d → a ++ b ≡ c ++ d
and_then e f = ap₂ (λ (p q : List ℕ). p ++ q) e f

pub seed_of-key_of : (seed : List ℕ) → length seed ≡ 32 → AreBytes seed → seed_of (key_of seed) ≡ seed
seed_of-key_of seed long all =
    let word = λ (i : ℕ). word_back seed i all in
    and_then (word 0) (and_then (word 1) (and_then (word 2) (and_then (word 3) (and_then (word 4) (and_then (word 5) (and_then (word 6) (word 7)))))))
    ∙ all_read seed 32 long
