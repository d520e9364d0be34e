-- The inverse cipher undoes the cipher, and the other way round.
use Rattle.std.proofs.Common.{List, [], ap, ap₂, arith, bit_xor, length, refl, suc, zero, ℕ, ◌%◌, ◌*◌, ◌+◌, ◌-◌, ◌<◌, ◌∙◌, ◌∷◌, ◌≡◌, ◌≤◌}
use Rattle.crypto_specs.proofs.Common.{AreBytes, add_round_key, cipher, entry, gf_mul, inv_cipher, inv_mix_columns, inv_rounds, inv_sbox, inv_shift_rows, inv_sub_bytes, mix_columns, mixed, mixed_with, rounds, sbox, shift_rows, state_of, sub_bytes, xor_lt}
use Rattle.crypto_specs.proofs.{FieldLaws.xor_twice, FieldLaws.gf_mul-byte, CipherInverseLists.HasBytes, CipherInverseLists.none_bytes, CipherInverseLists.more_bytes, CipherInverseLists.bytes_of_all, CipherInverseBytes.sbox-byte, CipherInverseBytes.inv_sbox-byte, CipherInverseBytes.inv_sbox_of_sbox, CipherInverseBytes.sbox_of_inv_sbox}
use Rattle.crypto_specs.proofs.CipherInverseColumns.{IsInverse, unmixed, inv_mix_of_mix, mix_of_inv_mix}

-- a list of 16 bytes
pub record IsState (s : List ℕ) : Type 0 where
  pub same : state_of (entry s) ≡ s
  pub bytes : HasBytes s

sixteen : (s : List ℕ) → length s ≡ 16 → state_of (entry s) ≡ s
sixteen (a ∷ b ∷ c ∷ d ∷ e ∷ f ∷ g ∷ h ∷ i ∷ j ∷ k ∷ l ∷ m ∷ n ∷ o ∷ p ∷ []) is = refl
sixteen s is = absurd (omega arith)

pub state_from : (s : List ℕ) → length s ≡ 16 → AreBytes s → IsState s
state_from s e h = record { same = sixteen s e; bytes = bytes_of_all s h }

-- a state by its rows and columns
state_made : (f : ℕ → ℕ → ℕ) → ((r c : ℕ) → f r c < 256) → IsState (state_of f)
state_made f h = record {
  same = refl;
  bytes =
      more_bytes (h 0 0) (more_bytes (h 1 0) (more_bytes (h 2 0) (more_bytes (h 3 0)
      (more_bytes (h 0 1) (more_bytes (h 1 1) (more_bytes (h 2 1) (more_bytes (h 3 1)
      (more_bytes (h 0 2) (more_bytes (h 1 2) (more_bytes (h 2 2) (more_bytes (h 3 2)
      (more_bytes (h 0 3) (more_bytes (h 1 3) (more_bytes (h 2 3) (more_bytes (h 3 3) none_bytes)))))))))))))));
}

state_same : (f g : ℕ → ℕ → ℕ) → ((r c : ℕ) → f r c ≡ g r c) → state_of f ≡ state_of g
state_same f g h =
    rw (h 0 0, h 1 0, h 2 0, h 3 0, h 0 1, h 1 1, h 2 1, h 3 1, h 0 2, h 1 2, h 2 2, h 3 2, h 0 3, h 1 3, h 2 3, h 3 3) refl

-- ---- the steps of a round and what undoes them

-- SubBytes and ShiftRows, and the inverse
substituted : List ℕ → List ℕ
substituted s = shift_rows (sub_bytes s)

restored : List ℕ → List ℕ
restored s = inv_sub_bytes (inv_shift_rows s)

mixed_columns : List ℕ → List ℕ
mixed_columns s = mix_columns s

unmixed_columns : List ℕ → List ℕ
unmixed_columns s = inv_mix_columns s

keyed : List ℕ → List ℕ → ℕ → List ℕ
keyed w s r = add_round_key w s r

restored_of_substituted : (s : List ℕ) → IsState s → restored (substituted s) ≡ s
unfolding substituted restored
restored_of_substituted s h =
    state_same (λ r c. inv_sbox (sbox (entry s r c))) (entry s) (λ r c. inv_sbox_of_sbox (entry s r c) (h.bytes.at (r + 4 * c))) ∙ h.same

substituted_of_restored : (s : List ℕ) → IsState s → substituted (restored s) ≡ s
unfolding substituted restored
substituted_of_restored s h =
    state_same (λ r c. sbox (inv_sbox (entry s r c))) (entry s) (λ r c. sbox_of_inv_sbox (entry s r c) (h.bytes.at (r + 4 * c))) ∙ h.same

mixing_undone : (c0 c1 c2 c3 p0 p1 p2 p3 : ℕ) → IsInverse c0 c1 c2 c3 p0 p1 p2 p3 → (s : List ℕ) → IsState s
    → mixed_with c0 c1 c2 c3 (mixed_with p0 p1 p2 p3 s) ≡ s
mixing_undone c0 c1 c2 c3 p0 p1 p2 p3 inverse s h =
    let at : (r c : ℕ) → entry s r c < 256 = λ r c. h.bytes.at (r + 4 * c) in
    state_same _ (λ r c. entry s (r % 4) c) (λ r c.
    unmixed c0 c1 c2 c3 p0 p1 p2 p3 inverse (entry s (r % 4) c) (entry s ((r + 1) % 4) c) (entry s ((r + 2) % 4) c) (entry s ((r + 3) % 4) c)
    (at (r % 4) c) (at ((r + 1) % 4) c) (at ((r + 2) % 4) c) (at ((r + 3) % 4) c))
    ∙ h.same

unmixed_of_mixed : (s : List ℕ) → IsState s → unmixed_columns (mixed_columns s) ≡ s
unfolding mixed_columns unmixed_columns
unmixed_of_mixed s h = mixing_undone 14 11 13 9 2 3 1 1 inv_mix_of_mix s h

mixed_of_unmixed : (s : List ℕ) → IsState s → mixed_columns (unmixed_columns s) ≡ s
unfolding mixed_columns unmixed_columns
mixed_of_unmixed s h = mixing_undone 2 3 1 1 14 11 13 9 mix_of_inv_mix s h

keyed_twice : (w s : List ℕ) (r : ℕ) → IsState s → keyed w (keyed w s r) r ≡ s
unfolding keyed
keyed_twice w s r h =
    let k : ℕ → ℕ → ℕ = λ i c. entry w i (c + 4 * r) in
    state_same (λ i c. bit_xor (bit_xor (entry s i c) (k i c)) (k i c)) (entry s) (λ i c. xor_twice (entry s i c) (k i c)) ∙ h.same

-- ---- each step gives a state

substituted_state : (s : List ℕ) → IsState (substituted s)
unfolding substituted
substituted_state s = state_made (λ r c. sbox (entry s r ((c + r) % 4))) (λ r c. sbox-byte (entry s r ((c + r) % 4)))

restored_state : (s : List ℕ) → IsState (restored s)
unfolding restored
restored_state s = state_made (λ r c. inv_sbox (entry s r ((c + 4 - r) % 4))) (λ r c. inv_sbox-byte (entry s r ((c + 4 - r) % 4)))

mixed-byte : (a0 a1 a2 a3 b0 b1 b2 b3 : ℕ) → b0 < 256 → b1 < 256 → b2 < 256 → b3 < 256 → mixed a0 a1 a2 a3 b0 b1 b2 b3 < 256
mixed-byte a0 a1 a2 a3 b0 b1 b2 b3 h0 h1 h2 h3 =
    let two : bit_xor (gf_mul a0 b0) (gf_mul a1 b1) < 256 = xor_lt 8 _ _ (gf_mul-byte a0 b0 h0) (gf_mul-byte a1 b1 h1) in
    let three : bit_xor (bit_xor (gf_mul a0 b0) (gf_mul a1 b1)) (gf_mul a2 b2) < 256 = xor_lt 8 _ _ two (gf_mul-byte a2 b2 h2) in
    xor_lt 8 _ _ three (gf_mul-byte a3 b3 h3)

any_mixed_state : (a0 a1 a2 a3 : ℕ) (s : List ℕ) → HasBytes s → IsState (mixed_with a0 a1 a2 a3 s)
any_mixed_state a0 a1 a2 a3 s h =
    let at : (r c : ℕ) → entry s r c < 256 = λ r c. h.at (r + 4 * c) in
    state_made (λ r c. mixed a0 a1 a2 a3 (entry s r c) (entry s ((r + 1) % 4) c) (entry s ((r + 2) % 4) c) (entry s ((r + 3) % 4) c))
    (λ r c. mixed-byte a0 a1 a2 a3 _ _ _ _ (at r c) (at ((r + 1) % 4) c) (at ((r + 2) % 4) c) (at ((r + 3) % 4) c))

mixed_state : (s : List ℕ) → HasBytes s → IsState (mixed_columns s)
unfolding mixed_columns
mixed_state s h = any_mixed_state 2 3 1 1 s h

unmixed_state : (s : List ℕ) → HasBytes s → IsState (unmixed_columns s)
unfolding unmixed_columns
unmixed_state s h = any_mixed_state 14 11 13 9 s h

keyed_state : (w s : List ℕ) (r : ℕ) → HasBytes w → HasBytes s → IsState (keyed w s r)
unfolding keyed
keyed_state w s r k h =
    state_made (λ i c. bit_xor (entry s i c) (entry w i (c + 4 * r)))
    (λ i c. xor_lt 8 (entry s i c) (entry w i (c + 4 * r)) (h.at (i + 4 * c)) (k.at (i + 4 * (c + 4 * r))))

-- ---- the rounds

rounds_zero : (w s : List ℕ) → rounds w s 0 ≡ keyed w s 0
unfolding rounds keyed
rounds_zero w s = refl

-- a round from one substitution to the next, and an inverse round
abbrev forth : List ℕ → ℕ → List ℕ → List ℕ
forth w n s = substituted (keyed w (mixed_columns s) (n + 1))

abbrev back : List ℕ → ℕ → ℕ → List ℕ → List ℕ
back w nr n s = unmixed_columns (keyed w (restored s) (nr - (n + 1)))

rounds_suc : (w s : List ℕ) (n : ℕ) → substituted (rounds w s (suc n)) ≡ forth w n (substituted (rounds w s n))
unfolding rounds keyed mixed_columns substituted
rounds_suc w s n = refl

cipher_is : (w s : List ℕ) (nr : ℕ) → cipher w nr s ≡ keyed w (substituted (rounds w s (nr - 1))) nr
unfolding keyed substituted
cipher_is w s nr = refl

inv_rounds_zero : (w s : List ℕ) (nr : ℕ) → inv_rounds w nr s 0 ≡ keyed w s nr
unfolding inv_rounds keyed
inv_rounds_zero w s nr = refl

inv_rounds_suc : (w s : List ℕ) (nr n : ℕ) → inv_rounds w nr s (suc n) ≡ back w nr n (inv_rounds w nr s n)
unfolding inv_rounds keyed unmixed_columns restored
inv_rounds_suc w s nr n = refl

inv_cipher_is : (w s : List ℕ) (nr : ℕ) → inv_cipher w nr s ≡ keyed w (restored (inv_rounds w nr s (nr - 1))) 0
unfolding keyed restored
inv_cipher_is w s nr = refl

pub cipher_state : (w : List ℕ) → HasBytes w → (nr : ℕ) (s : List ℕ) → IsState (cipher w nr s)
cipher_state w key nr s =
    let before : IsState (substituted (rounds w s (nr - 1))) = substituted_state (rounds w s (nr - 1)) in
    rw (cipher_is w s nr) (keyed_state w (substituted (rounds w s (nr - 1))) nr key before.bytes)

pub inv_cipher_state : (w : List ℕ) → HasBytes w → (nr : ℕ) (s : List ℕ) → IsState (inv_cipher w nr s)
inv_cipher_state w key nr s =
    let before : IsState (restored (inv_rounds w nr s (nr - 1))) = restored_state (inv_rounds w nr s (nr - 1)) in
    rw (inv_cipher_is w s nr) (keyed_state w (restored (inv_rounds w nr s (nr - 1))) 0 key before.bytes)

-- a sequence that undoes another's steps, the last one first, goes back along it
mirrored : (f g : ℕ → List ℕ → List ℕ) (u v : ℕ → List ℕ) (last : ℕ) → ((n : ℕ) → u (suc n) ≡ f n (u n)) → ((n : ℕ) → v (suc n) ≡ g n (v n))
    → ((n m : ℕ) → n + m + 1 ≡ last → g n (f m (u m)) ≡ u m) → v 0 ≡ u last → (n : ℕ) → n ≤ last → v n ≡ u (last - n)
mirrored f g u v last us vs undone start zero k = start ∙ ap u (omega arith)
mirrored f g u v last us vs undone start (suc n) k =
    let m : ℕ = last - suc n in
    let row : last - n ≡ suc m = omega arith in
    vs n ∙ ap (g n) (mirrored f g u v last us vs undone start n (omega arith) ∙ ap u row ∙ us m) ∙ undone n m (omega arith)

module _ (w : List ℕ) (key : HasBytes w) (nr : ℕ) (some : 1 ≤ nr) where
  inv_rounds_state : (s : List ℕ) → IsState s → (n : ℕ) → IsState (inv_rounds w nr s n)
  inv_rounds_state s h zero = rw (inv_rounds_zero w s nr) (keyed_state w s nr key h.bytes)
  inv_rounds_state s h (suc n) =
      let before : IsState (restored (inv_rounds w nr s n)) = restored_state (inv_rounds w nr s n) in
      let now : IsState (keyed w (restored (inv_rounds w nr s n)) (nr - (n + 1))) = keyed_state w (restored (inv_rounds w nr s n)) (nr - (n + 1)) key before.bytes in
      rw (inv_rounds_suc w s nr n) (unmixed_state (keyed w (restored (inv_rounds w nr s n)) (nr - (n + 1))) now.bytes)

  back_of_forth : (n m : ℕ) → n + m + 1 ≡ nr - 1 → (s : List ℕ) → IsState s → back w nr n (forth w m s) ≡ s
  back_of_forth n m e s h =
      let place : nr - (n + 1) ≡ m + 1 = omega arith in
      let mixed_is : IsState (mixed_columns s) = mixed_state s h.bytes in
      ap unmixed_columns (ap₂ (keyed w) (restored_of_substituted (keyed w (mixed_columns s) (m + 1)) (keyed_state w (mixed_columns s) (m + 1) key mixed_is.bytes)) place
      ∙ keyed_twice w (mixed_columns s) (m + 1) mixed_is)
      ∙ unmixed_of_mixed s h

  forth_of_back : (n m : ℕ) → n + m + 1 ≡ nr - 1 → (s : List ℕ) → IsState s → forth w n (back w nr m s) ≡ s
  forth_of_back n m e s h =
      let place : n + 1 ≡ nr - (m + 1) = omega arith in
      let is : IsState (restored s) = restored_state s in
      ap substituted (ap₂ (keyed w) (mixed_of_unmixed (keyed w (restored s) (nr - (m + 1))) (keyed_state w (restored s) (nr - (m + 1)) key is.bytes)) place
      ∙ keyed_twice w (restored s) (nr - (m + 1)) is)
      ∙ substituted_of_restored s h

  pub inv_cipher_of_cipher : (s : List ℕ) → IsState s → inv_cipher w nr (cipher w nr s) ≡ s
  inv_cipher_of_cipher s h =
      let first : nr - 1 - (nr - 1) ≡ 0 = omega arith in
      let u : ℕ → List ℕ = λ n. substituted (rounds w s n) in
      let start : inv_rounds w nr (cipher w nr s) 0 ≡ u (nr - 1) =
      inv_rounds_zero w (cipher w nr s) nr ∙ ap (λ (t : List ℕ). keyed w t nr) (cipher_is w s nr) ∙ keyed_twice w (u (nr - 1)) nr (substituted_state (rounds w s (nr - 1))) in
      let all : inv_rounds w nr (cipher w nr s) (nr - 1) ≡ u (nr - 1 - (nr - 1)) =
      mirrored (forth w) (back w nr) u (inv_rounds w nr (cipher w nr s)) (nr - 1) (rounds_suc w s) (inv_rounds_suc w (cipher w nr s) nr)
      (λ n m e. back_of_forth n m e (u m) (substituted_state (rounds w s m))) start (nr - 1) (omega arith) in
      inv_cipher_is w (cipher w nr s) nr
      ∙ ap (λ (t : List ℕ). keyed w t 0) (ap restored (all ∙ ap u first ∙ ap substituted (rounds_zero w s))
      ∙ restored_of_substituted (keyed w s 0) (keyed_state w s 0 key h.bytes))
      ∙ keyed_twice w s 0 h

  pub cipher_of_inv_cipher : (s : List ℕ) → IsState s → cipher w nr (inv_cipher w nr s) ≡ s
  cipher_of_inv_cipher s h =
      let first : nr - 1 - (nr - 1) ≡ 0 = omega arith in
      let u : ℕ → List ℕ = inv_rounds w nr s in
      let v : ℕ → List ℕ = λ n. substituted (rounds w (inv_cipher w nr s) n) in
      let start : v 0 ≡ u (nr - 1) =
      ap substituted (rounds_zero w (inv_cipher w nr s) ∙ ap (λ (t : List ℕ). keyed w t 0) (inv_cipher_is w s nr) ∙ keyed_twice w (restored (u (nr - 1))) 0 (restored_state (u (nr - 1))))
      ∙ substituted_of_restored (u (nr - 1)) (inv_rounds_state s h (nr - 1)) in
      let all : v (nr - 1) ≡ u (nr - 1 - (nr - 1)) =
      mirrored (back w nr) (forth w) u v (nr - 1) (inv_rounds_suc w s nr) (rounds_suc w (inv_cipher w nr s)) (λ n m e. forth_of_back n m e (u m) (inv_rounds_state s h m)) start (nr - 1) (omega arith) in
      cipher_is w (inv_cipher w nr s) nr ∙ ap (λ (t : List ℕ). keyed w t nr) (all ∙ ap u first ∙ inv_rounds_zero w s nr) ∙ keyed_twice w s nr h
