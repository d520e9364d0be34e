-- The rounds one after another, and the round keys that they look at.
use Rattle.aes_core.proofs.Common.{IsTrue, List, add_round_key, ap, arith, bit_xor, cipher, entry, get_or-take, inv_cipher, inv_mix_columns, inv_rounds, inv_shift_rows, inv_sub_bytes, mix_columns, nat_lt, refl, rounds, shift_rows, slice_index, state_of, sub_bytes, suc, sym, take, zero, ℕ, ◌&&◌, ◌*◌, ◌+◌, ◌-◌, ◌<◌, ◌∙◌, ◌≡◌, ◌≤◌}
use Rattle.std.proofs.lemmas.Bool.Decides.{nat_tests}

pub rounds_none : (w s : List ℕ) (n : ℕ) → n ≡ 0 → add_round_key w s 0 ≡ rounds w s n
unfolding rounds
rounds_none w s n e = rw e refl

pub rounds_next : (w s t : List ℕ) (n : ℕ) → 1 ≤ n → t ≡ rounds w s (n - 1) → add_round_key w (mix_columns (shift_rows (sub_bytes t))) n ≡ rounds w s (n + 1 - 1)
unfolding rounds
rounds_next w s t zero h e = absurd (omega arith)
rounds_next w s t (suc m) h e =
    let now : suc m + 1 - 1 ≡ suc m = omega arith in
    let before : suc m - 1 ≡ m = omega arith in
    let place : m + 1 ≡ suc m = omega arith in
    rw (now, place, e, before) refl

pub inv_rounds_none : (w s : List ℕ) (nr n : ℕ) → n ≡ 0 → add_round_key w s nr ≡ inv_rounds w nr s n
unfolding inv_rounds
inv_rounds_none w s nr n e = rw e refl

pub inv_rounds_next : (w s t : List ℕ) (nr n : ℕ) → 1 ≤ n → t ≡ inv_rounds w nr s (n - 1) → inv_mix_columns (add_round_key w (inv_sub_bytes (inv_shift_rows t)) (nr - n)) ≡ inv_rounds w nr s (n + 1 - 1)
unfolding inv_rounds
inv_rounds_next w s t nr zero h e = absurd (omega arith)
inv_rounds_next w s t nr (suc m) h e =
    let now : suc m + 1 - 1 ≡ suc m = omega arith in
    let before : suc m - 1 ≡ m = omega arith in
    let place : m + 1 ≡ suc m = omega arith in
    rw (now, place, e, before) refl

-- ---- a round key lies within the words that the rounds need

abbrev pub AgreeBelow : ℕ → List ℕ → List ℕ → Type 0
AgreeBelow n w v = (i : ℕ) → i < n → slice_index w i ≡ slice_index v i

pub agree_taken : (n : ℕ) (w v : List ℕ) → take n w ≡ v → AgreeBelow n w v
agree_taken n w v e = λ i h. sym (get_or-take n w i 0 h) ∙ ap (λ (l : List ℕ). slice_index l i) e

abbrev IsInState : ℕ → ℕ → Type 0
IsInState r c = IsTrue (nat_lt r 4 && nat_lt c 4)

state_of_same : (f g : ℕ → ℕ → ℕ) → ((r c : ℕ) → IsInState r c → f r c ≡ g r c) → state_of f ≡ state_of g
state_of_same f g h =
    rw (h 0 0 refl, h 1 0 refl, h 2 0 refl, h 3 0 refl, h 0 1 refl, h 1 1 refl, h 2 1 refl, h 3 1 refl, h 0 2 refl, h 1 2 refl, h 2 2 refl, h 3 2 refl, h 0 3 refl, h 1 3 refl, h 2 3 refl, h 3 3 refl) refl

key_same : (w v s : List ℕ) (nr r : ℕ) → r ≤ nr → AgreeBelow (16 * (nr + 1)) w v → add_round_key w s r ≡ add_round_key v s r
key_same w v s nr r h a = state_of_same _ _ (λ i c is. ap (bit_xor (entry s i c)) (a (i + 4 * (c + 4 * r)) (grind (arith, nat_tests))))

rounds_same : (w v s : List ℕ) (nr n : ℕ) → n ≤ nr → AgreeBelow (16 * (nr + 1)) w v → rounds w s n ≡ rounds v s n
unfolding rounds
rounds_same w v s nr zero h a = key_same w v s nr 0 (omega arith) a
rounds_same w v s nr (suc n) h a =
    key_same w v (mix_columns (shift_rows (sub_bytes (rounds w s n)))) nr (n + 1) (omega arith) a
    ∙ ap (λ (t : List ℕ). add_round_key v (mix_columns (shift_rows (sub_bytes t))) (n + 1)) (rounds_same w v s nr n (omega arith) a)

pub cipher_same : (w v s : List ℕ) (nr : ℕ) → AgreeBelow (16 * (nr + 1)) w v → cipher w nr s ≡ cipher v nr s
cipher_same w v s nr a =
    key_same w v (shift_rows (sub_bytes (rounds w s (nr - 1)))) nr nr (omega arith) a
    ∙ ap (λ (t : List ℕ). add_round_key v (shift_rows (sub_bytes t)) nr) (rounds_same w v s nr (nr - 1) (omega arith) a)

inv_rounds_same : (w v s : List ℕ) (nr n : ℕ) → AgreeBelow (16 * (nr + 1)) w v → inv_rounds w nr s n ≡ inv_rounds v nr s n
unfolding inv_rounds
inv_rounds_same w v s nr zero a = key_same w v s nr nr (omega arith) a
inv_rounds_same w v s nr (suc n) a =
    ap inv_mix_columns (key_same w v (inv_sub_bytes (inv_shift_rows (inv_rounds w nr s n))) nr (nr - (n + 1)) (omega arith) a
    ∙ ap (λ (t : List ℕ). add_round_key v (inv_sub_bytes (inv_shift_rows t)) (nr - (n + 1))) (inv_rounds_same w v s nr n a))

pub inv_cipher_same : (w v s : List ℕ) (nr : ℕ) → AgreeBelow (16 * (nr + 1)) w v → inv_cipher w nr s ≡ inv_cipher v nr s
inv_cipher_same w v s nr a =
    key_same w v (inv_sub_bytes (inv_shift_rows (inv_rounds w nr s (nr - 1)))) nr 0 (omega arith) a
    ∙ ap (λ (t : List ℕ). add_round_key v (inv_sub_bytes (inv_shift_rows t)) 0) (inv_rounds_same w v s nr (nr - 1) a)
