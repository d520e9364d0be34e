-- Counter blocks, and the key stream.
use Rattle.aead_gcm.proofs.Common.{List, [], add-one, aes_encrypt, ap, arith, block_number, gcm_stream, ghash_of, hash_subkey, increased, initial_counter_block, length, length-append, number_block, refl, suc, zero, ℕ, ◌%◌, ◌*◌, ◌++◌, ◌+◌, ◌/◌, ◌^◌, ◌∙◌, ◌≡◌}
use Rattle.std.proofs.lemmas.Bool.{eq-eqb, ne_eqb}
use Rattle.crypto_specs.proofs.Blocks.{length-aes_encrypt}

pub one_more : (b : ℕ) → b / 2 ^ 32 * 2 ^ 32 + (b % 2 ^ 32 + 1) % 2 ^ 32 ≡ increased b 1
unfolding increased
one_more b = refl

pub increased_next : (y n b : ℕ) → b ≡ increased y n → increased b 1 ≡ increased y (n + 1)
unfolding increased
increased_next y n b e = omega arith

pub increased_by_0 : (y : ℕ) → y ≡ increased y 0
unfolding increased
increased_by_0 y = omega arith

pub length-gcm_stream : (key : List ℕ) (y n : ℕ) → length (gcm_stream (aes_encrypt key) y n) ≡ 16 * n
unfolding gcm_stream
length-gcm_stream key y zero = refl
length-gcm_stream key y (suc n) =
    let block : List ℕ = aes_encrypt key (number_block (increased y (n + 1))) in
    omega (arith, length-append (gcm_stream (aes_encrypt key) y n) block, length-gcm_stream key y n, length-aes_encrypt key (number_block (increased y (n + 1))))

pub gcm_stream_next : (e : List ℕ → List ℕ) (y n : ℕ) → gcm_stream e y (n + 1) ≡ gcm_stream e y n ++ e (number_block (increased y (n + 1)))
unfolding gcm_stream
gcm_stream_next e y n = ap (gcm_stream e y) (add-one n)

pub of_12_bytes : (e : List ℕ → List ℕ) (nonce : List ℕ) (v b : ℕ) → length nonce ≡ 12 → v ≡ block_number nonce → b ≡ increased v 1 → b ≡ initial_counter_block e nonce
unfolding initial_counter_block
of_12_bytes e nonce v b h ev eb = rw (eq-eqb (length nonce) 12 h) (eb ∙ ap (λ (v : ℕ). increased v 1) ev)

pub of_other_lengths : (e : List ℕ → List ℕ) (nonce : List ℕ) (h b : ℕ) → (length nonce ≡ 12 → ⊥) → b ≡ ghash_of h [] nonce → h ≡ hash_subkey e → b ≡ initial_counter_block e nonce
unfolding initial_counter_block
of_other_lengths e nonce h b other eb eh = rw (ne_eqb (length nonce) 12 other) (eb ∙ ap (λ (k : ℕ). ghash_of k [] nonce) eh)
