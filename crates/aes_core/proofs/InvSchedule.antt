-- The schedule of the equivalent inverse cipher, word by word.
use Rattle.aes_core.proofs.Common.{IsInvScheduleOf, List, [], ap, arith, word_bytes, cases_eq, get_or-set_other, get_or-set_same, inl, inr, inv_mixed_word, length, refl, set, slice_index, ℕ, ◌*◌, ◌+◌, ◌<◌, ◌∙◌, ◌∷◌, ◌≡◌, ◌≤◌, ◌⊎◌}

-- InvMixColumns is taken of the words from 4 up to n, and the others are those of the schedule
pub record IsDoneBelow (n : ℕ) (schedule inverse : List ℕ) : Type 0 where
  pub done : (i : ℕ) → 4 ≤ i → i < n → word_bytes (slice_index inverse i ∷ []) ≡ inv_mixed_word (word_bytes (slice_index schedule i ∷ []))
  pub rest : (i : ℕ) → (i < 4) ⊎ (n ≤ i) → slice_index inverse i ≡ slice_index schedule i

pub none_done : (s : List ℕ) → IsDoneBelow 4 s s
none_done s = record { done = λ i h k. absurd (omega arith); rest = λ i h. refl }

pub one_more_done : (n word : ℕ) (s v : List ℕ) → 4 ≤ n → n < length v → word_bytes (word ∷ []) ≡ inv_mixed_word (word_bytes (slice_index s n ∷ [])) → IsDoneBelow n s v → IsDoneBelow (n + 1) s (set v n word)
one_more_done n word s v low high e h = record { done = before; rest = after }
  where
    before : (i : ℕ) → 4 ≤ i → i < n + 1 → word_bytes (slice_index (set v n word) i ∷ []) ≡ inv_mixed_word (word_bytes (slice_index s i ∷ []))
    before i a b = elim (cases_eq i n) [
      | inl same ↦ rw same (ap (λ (w : ℕ). word_bytes (w ∷ [])) (get_or-set_same v n word 0 high) ∙ e)
      | inr other ↦ ap (λ (w : ℕ). word_bytes (w ∷ [])) (get_or-set_other v n i word 0 other) ∙ h.done i a (omega arith)
    ]

    after : (i : ℕ) → (i < 4) ⊎ (n + 1 ≤ i) → slice_index (set v n word) i ≡ slice_index s i
    after i (inl l) = get_or-set_other v n i word 0 (λ e. omega arith) ∙ h.rest i (inl l)
    after i (inr g) = get_or-set_other v n i word 0 (λ e. omega arith) ∙ h.rest i (inr (omega arith))

pub all_done : (rounds : ℕ) (s v : List ℕ) → IsDoneBelow (4 * rounds) s v → IsInvScheduleOf rounds s v
all_done rounds s v h = record { outer = h.rest; inner = h.done }
