-- One more word of a schedule that is written from its front on.
use Rattle.hmac_ops.proofs.Common.{List, [], add-one, ap, ap₂, arith, first_words, get_or-take, length, next_word, schedule, slice_set, suc, sym, take, take_more_set, word_at, ℕ, ◌*◌, ◌++◌, ◌+◌, ◌-◌, ◌<◌, ◌∙◌, ◌∷◌, ◌≡◌, ◌≤◌}

-- a word follows from those before it
next_word-front : (w : List ℕ) (t : ℕ) → 16 ≤ t → next_word (take t w) t ≡ next_word w t
next_word-front w t h =
    rw (get_or-take t w (t - 2) 0 (omega arith), get_or-take t w (t - 7) 0 (omega arith), get_or-take t w (t - 15) 0 (omega arith), get_or-take t w (t - 16) 0 (omega arith))

pub first_words-more : (b w : List ℕ) (t x : ℕ) → t < length w → take t w ≡ first_words b t → x ≡ word_at b (4 * t) → take (t + 1) (slice_set w t x) ≡ first_words b (t + 1)
unfolding first_words
first_words-more b w t x fits held e =
    take_more_set w t x fits ∙ ap₂ (λ (front : List ℕ) (y : ℕ). front ++ y ∷ []) held e ∙ ap (first_words b) (sym (add-one t))

pub schedule-more : (b w : List ℕ) (t x : ℕ) → 16 ≤ t → t < length w → take t w ≡ schedule b (t - 16) → x ≡ next_word w t
    → take (t + 1) (slice_set w t x) ≡ schedule b (t + 1 - 16)
unfolding schedule
schedule-more b w t x low fits held e =
    let n : ℕ = t - 16 in
    let at : t ≡ n + 16 = omega arith in
    let more : suc n ≡ t + 1 - 16 = omega arith in
    let word : x ≡ next_word (schedule b n) (n + 16) =
    e ∙ sym (next_word-front w t low) ∙ ap₂ next_word held at in
    take_more_set w t x fits ∙ ap₂ (λ (front : List ℕ) (y : ℕ). front ++ y ∷ []) held word ∙ ap (schedule b) more
