-- The key schedule, word by word.
use Rattle.aes_core.proofs.Common.{IsKey, List, [], add_word, ap, ap₂, arith, bit_xor, word_bytes, eq-eqb, expanded, get_or-take, key_schedule, length, length-append, next_word, power_of_x, refl, rot_word, round_count, schedule_core, set, slice_index, sub_word, suc, sym, take, take-append-le, take-length, take-take, take_more_set, xor_words, zero, ℕ, ◌%◌, ◌*◌, ◌++◌, ◌+◌, ◌-◌, ◌/◌, ◌<◌, ◌∙◌, ◌∷◌, ◌≡◌, ◌≤◌}
use Rattle.aes_core.proofs.WordBytes.{bytes_of-take, bytes_of-append, bytes_of_xor, word_at_is}
use Rattle.std.proofs.lemmas.Nat.{div-add-mod', mod-mul-add}

-- the first of the three cases
pub core_at_start : (words i : ℕ) (t substituted word : List ℕ) (k : ℕ) → i % words ≡ 0 → substituted ≡ sub_word (rot_word t) → k ≡ power_of_x (i / words - 1)
    → word ≡ xor_words substituted (k ∷ 0 ∷ 0 ∷ 0 ∷ []) → word ≡ schedule_core words i t
core_at_start words i t substituted word k e es ek ew = rw (eq-eqb (i % words) 0 e, ew, es, ek) refl

-- the place of a word among so many, counted from the first word after the key
pub first_place : (words : ℕ) → 0 < words → 0 ≡ words % words
first_place words some =
    let whole : words ≡ 1 * words + 0 = omega arith in
    sym (ap (λ (n : ℕ). n % words) whole ∙ mod-mul-add 1 words 0 some)

-- the place of the next word
pub next_place : (words turn i : ℕ) → 0 < words → turn ≡ i % words → turn + 1 < words → turn + 1 ≡ (i + 1) % words
next_place words turn i some e within =
    let split : i / words * words + turn ≡ i = rw e (div-add-mod' i words) in
    sym (ap (λ (n : ℕ). n % words) (omega (arith, split)) ∙ mod-mul-add (i / words) words (turn + 1) within)

pub last_place : (words turn i : ℕ) → 0 < words → turn ≡ i % words → turn + 1 ≡ words → 0 ≡ (i + 1) % words
last_place words turn i some e end =
    let split : i / words * words + turn ≡ i = rw e (div-add-mod' i words) in
    let whole : i + 1 ≡ (i / words + 1) * words + 0 = grind (arith, split, end) in
    sym (ap (λ (n : ℕ). n % words) whole ∙ mod-mul-add (i / words + 1) words 0 some)

-- the next word sees only the words before it
pub next_word_of_taken : (words i : ℕ) (s : List ℕ) → 4 ≤ words → words ≤ i → next_word words (take (4 * i) s) i ≡ next_word words s i
next_word_of_taken words i s low h =
    let at : (k : ℕ) → k < 4 * i → slice_index (take (4 * i) s) k ≡ slice_index s k = λ k lt. get_or-take (4 * i) s k 0 lt in
    rw (
      at (4 * (i - words)) (omega arith),
      at (4 * (i - words) + 1) (omega arith),
      at (4 * (i - words) + 2) (omega arith),
      at (4 * (i - words) + 3) (omega arith),
      at (4 * (i - 1)) (omega arith),
      at (4 * (i - 1) + 1) (omega arith),
      at (4 * (i - 1) + 2) (omega arith),
      at (4 * (i - 1) + 3) (omega arith),
    ) refl

-- word i written after the words before it
pub word_added : (words i word : ℕ) (s : List ℕ) → 4 ≤ words → words ≤ i → i < length s → word_bytes (word ∷ []) ≡ next_word words (word_bytes s) i
    → word_bytes (take (i + 1) (set s i word)) ≡ add_word words i (word_bytes (take i s))
word_added words i word s low h small e =
    ap word_bytes (take_more_set s i word small) ∙ bytes_of-append (take i s) (word ∷ [])
    ∙ ap (λ (l : List ℕ). word_bytes (take i s) ++ l) (e ∙ sym (next_word_of_taken words i (word_bytes s) low h) ∙ ap (λ (l : List ℕ). next_word words l i) (sym (bytes_of-take i s)))

-- word i of the words, and the core of the word before it
pub next_word_is : (words i core : ℕ) (ws core_bytes : List ℕ) → word_bytes (core ∷ []) ≡ core_bytes → core_bytes ≡ schedule_core words i (word_bytes (slice_index ws (i - 1) ∷ []))
    → word_bytes (bit_xor (slice_index ws (i - words)) core ∷ []) ≡ next_word words (word_bytes ws) i
next_word_is words i core ws core_bytes eb ec =
    bytes_of_xor (slice_index ws (i - words)) core
    ∙ ap₂ xor_words (sym (word_at_is ws (i - words))) (eb ∙ ec ∙ ap (schedule_core words i) (sym (word_at_is ws (i - 1))))

four_more : (n : ℕ) (key : List ℕ) → n + 4 ≤ length key
    → take (n + 4) key ≡ take n key ++ (slice_index key n ∷ slice_index key (n + 1) ∷ slice_index key (n + 2) ∷ slice_index key (n + 3) ∷ [])
four_more zero (a ∷ b ∷ c ∷ d ∷ key) h = refl
four_more zero key h = absurd (omega arith)
four_more (suc n) [] h = absurd (omega arith)
four_more (suc n) (x ∷ key) h =
    let more : (i : ℕ) → suc n + i ≡ suc (n + i) = λ i. omega arith in
    rw (more 4, more 1, more 2, more 3) (ap (λ (l : List ℕ). x ∷ l) (four_more n key (omega arith)))

-- a word of the key after those before it
pub key_word : (i word : ℕ) (s key : List ℕ) → i < length s → word_bytes (take i s) ≡ take (4 * i) key
    → word_bytes (word ∷ []) ≡ slice_index key (4 * i) ∷ slice_index key (4 * i + 1) ∷ slice_index key (4 * i + 2) ∷ slice_index key (4 * i + 3) ∷ []
    → 4 * i + 4 ≤ length key → word_bytes (take (i + 1) (set s i word)) ≡ take (4 * (i + 1)) key
key_word i word s key small before e room =
    ap word_bytes (take_more_set s i word small) ∙ bytes_of-append (take i s) (word ∷ []) ∙ ap₂ (λ (l m : List ℕ). l ++ m) before e
    ∙ sym (four_more (4 * i) key room) ∙ ap (λ (n : ℕ). take n key) (omega arith)

pub expanded_next : (words i : ℕ) (key s : List ℕ) → words ≤ i → s ≡ expanded words key (i - words) → add_word words i s ≡ expanded words key (i + 1 - words)
unfolding expanded
expanded_next words i key s h e =
    let n : i + 1 - words ≡ suc (i - words) = omega arith in
    let back : words + (i - words) ≡ i = omega arith in
    rw (n, back, e) refl

-- the words of a key begin its schedule
pub words_start : (k s : List ℕ) (nr : ℕ) → IsKey k → nr ≡ round_count k → word_bytes (take (length k / 4) s) ≡ k → word_bytes (take (nr - 6) s) ≡ expanded (nr - 6) k (nr - 6 - (nr - 6))
unfolding expanded
words_start k s nr key er h =
    let count : nr - 6 ≡ length k / 4 = omega arith in
    let none : length k / 4 - length k / 4 ≡ 0 = omega arith in
    rw (count, none) h

expanded_begins : (words : ℕ) (k : List ℕ) (n : ℕ) → (length k ≤ length (expanded words k n)) × (take (length k) (expanded words k n) ≡ k)
unfolding expanded
expanded_begins words k zero = (omega arith, take-length k)
expanded_begins words k (suc n) =
    let before = expanded_begins words k n in
    let w : List ℕ = expanded words k n in (
      omega (arith, length-append w (next_word words w (words + n)), before.0),
      take-append-le (length k) w (next_word words w (words + n)) before.0 ∙ before.1,
    )

pub schedule_begins : (k s : List ℕ) (nr : ℕ) → IsKey k → nr ≡ round_count k → word_bytes (take (4 * (nr + 1)) s) ≡ key_schedule k → word_bytes (take (nr - 6) s) ≡ k
unfolding key_schedule
schedule_begins k s nr key er e =
    let nk : ℕ = length k / 4 in
    let front : take (nr - 6) s ≡ take (nr - 6) (take (4 * (nr + 1)) s) = sym (take-take (nr - 6) (4 * (nr + 1)) s (omega arith)) in
    let count : 4 * (nr - 6) ≡ length k = omega arith in
    ap word_bytes front ∙ bytes_of-take (nr - 6) (take (4 * (nr + 1)) s) ∙ rw (count, e) ((expanded_begins nk k (4 * (nk + 6 + 1) - nk)).1)

pub schedule_done : (k s : List ℕ) (nr i : ℕ) → nr ≡ length k / 4 + 6 → i ≡ 4 * (nr + 1) → word_bytes (take i s) ≡ expanded (nr - 6) k (i - (nr - 6)) → word_bytes (take (4 * (nr + 1)) s) ≡ key_schedule k
unfolding key_schedule
schedule_done k s nr i er ei e =
    let words : nr - 6 ≡ length k / 4 = omega arith in
    let count : i - (nr - 6) ≡ 4 * (length k / 4 + 6 + 1) - length k / 4 = omega arith in
    ap (λ (n : ℕ). word_bytes (take n s)) (sym ei) ∙ e ∙ ap₂ (λ (a b : ℕ). expanded a k b) words count
