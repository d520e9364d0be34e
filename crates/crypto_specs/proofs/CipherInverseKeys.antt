-- The bytes of a key schedule, and so the two ciphers of a key undo each other.
use Rattle.std.proofs.Common.{Bool, List, [], ap, arith, bit_xor, cond, eqb, false, length, nat_lt, slice_index, suc, sym, true, zero, ℕ, ◌%◌, ◌&&◌, ◌*◌, ◌+◌, ◌-◌, ◌/◌, ◌<◌, ◌∷◌}
use Rattle.crypto_specs.proofs.{Common.AreBytes, Common.IsBlock, Common.IsUndoneBy, Common.aes_decrypt, Common.aes_encrypt, Common.expanded, Common.key_schedule, Common.next_word, Common.power_of_x, Common.rot_word, Common.round_constant, Common.round_count, Common.schedule_core, Common.sub_word, Common.word_at, Common.xor_lt, Common.xor_words, FieldLaws.xtime-byte, CipherInverseBytes.sbox-byte}
use Rattle.crypto_specs.proofs.CipherInverseLists.{HasBytes, none_bytes, more_bytes, bytes_of_all, all_of_bytes, joined_bytes}
use Rattle.crypto_specs.proofs.CipherInverse.{IsState, state_from, cipher_state, inv_cipher_state, inv_cipher_of_cipher, cipher_of_inv_cipher}

four_bytes : {a b c d : ℕ} → a < 256 → b < 256 → c < 256 → d < 256 → HasBytes (a ∷ b ∷ c ∷ d ∷ [])
four_bytes h i j k = more_bytes h (more_bytes i (more_bytes j (more_bytes k none_bytes)))

cond_bytes : (t : Bool) (xs ys : List ℕ) → HasBytes xs → HasBytes ys → HasBytes (cond t xs ys)
cond_bytes true xs ys h k = h
cond_bytes false xs ys h k = k

xor_words-bytes : (a b : List ℕ) → HasBytes a → HasBytes b → HasBytes (xor_words a b)
xor_words-bytes a b h k =
    let each : (i : ℕ) → bit_xor (slice_index a i) (slice_index b i) < 256 = λ i. xor_lt 8 (slice_index a i) (slice_index b i) (h.at i) (k.at i) in
    four_bytes (each 0) (each 1) (each 2) (each 3)

word_at-bytes : (w : List ℕ) (i : ℕ) → HasBytes w → HasBytes (word_at w i)
word_at-bytes w i h = four_bytes (h.at (4 * i)) (h.at (4 * i + 1)) (h.at (4 * i + 2)) (h.at (4 * i + 3))

sub_word-bytes : (t : List ℕ) → HasBytes (sub_word t)
sub_word-bytes t = four_bytes (sbox-byte (slice_index t 0)) (sbox-byte (slice_index t 1)) (sbox-byte (slice_index t 2)) (sbox-byte (slice_index t 3))

power_of_x-byte : (n : ℕ) → power_of_x n < 256
unfolding power_of_x
power_of_x-byte zero = omega arith
power_of_x-byte (suc n) = xtime-byte (power_of_x n) (power_of_x-byte n)

schedule_core-bytes : (nk i : ℕ) (t : List ℕ) → HasBytes t → HasBytes (schedule_core nk i t)
schedule_core-bytes nk i t h =
    let constant : HasBytes (round_constant (i / nk)) = four_bytes (power_of_x-byte (i / nk - 1)) (omega arith) (omega arith) (omega arith) in
    cond_bytes (eqb (i % nk) 0) _ _ (xor_words-bytes (sub_word (rot_word t)) (round_constant (i / nk)) (sub_word-bytes (rot_word t)) constant)
    (cond_bytes (nat_lt 6 nk && eqb (i % nk) 4) (sub_word t) t (sub_word-bytes t) h)

next_word-bytes : (nk : ℕ) (w : List ℕ) (i : ℕ) → HasBytes w → HasBytes (next_word nk w i)
next_word-bytes nk w i h =
    xor_words-bytes (word_at w (i - nk)) (schedule_core nk i (word_at w (i - 1))) (word_at-bytes w (i - nk) h)
    (schedule_core-bytes nk i (word_at w (i - 1)) (word_at-bytes w (i - 1) h))

expanded-bytes : (nk : ℕ) (k : List ℕ) (n : ℕ) → HasBytes k → HasBytes (expanded nk k n)
unfolding expanded
expanded-bytes nk k zero h = h
expanded-bytes nk k (suc n) h = joined_bytes (expanded nk k n) (next_word nk (expanded nk k n) (nk + n)) (expanded-bytes nk k n h) (next_word-bytes nk (expanded nk k n) (nk + n) (expanded-bytes nk k n h))

key_schedule-bytes : (k : List ℕ) → HasBytes k → HasBytes (key_schedule k)
unfolding key_schedule
key_schedule-bytes k h = expanded-bytes _ k _ h

encrypted_state : (k block : List ℕ) → HasBytes k → IsState block → IsState (aes_encrypt k block)
unfolding aes_encrypt
encrypted_state k block key is = cipher_state (key_schedule k) (key_schedule-bytes k key) (round_count k) block

decrypted_state : (k block : List ℕ) → HasBytes k → IsState block → IsState (aes_decrypt k block)
unfolding aes_decrypt
decrypted_state k block key is = inv_cipher_state (key_schedule k) (key_schedule-bytes k key) (round_count k) block

block_of_state : (s : List ℕ) → IsState s → IsBlock s
block_of_state s h = record { long = sym (ap length h.same); bytes = all_of_bytes s h.bytes }

state_of_block : (b : List ℕ) → IsBlock b → IsState b
state_of_block b h = state_from b h.long h.bytes

pub decryption_undoes : (k : List ℕ) → AreBytes k → IsUndoneBy (aes_encrypt k) (aes_decrypt k)
unfolding aes_encrypt aes_decrypt
decryption_undoes k bytes =
    let key : HasBytes k = bytes_of_all k bytes in
    record {
      block = λ b h. block_of_state (aes_encrypt k b) (encrypted_state k b key (state_of_block b h));
      undone = λ b h. inv_cipher_of_cipher (key_schedule k) (key_schedule-bytes k key) (round_count k) (omega arith) b (state_of_block b h);
    }

pub encryption_undoes : (k : List ℕ) → AreBytes k → IsUndoneBy (aes_decrypt k) (aes_encrypt k)
unfolding aes_encrypt aes_decrypt
encryption_undoes k bytes =
    let key : HasBytes k = bytes_of_all k bytes in
    record {
      block = λ b h. block_of_state (aes_decrypt k b) (decrypted_state k b key (state_of_block b h));
      undone = λ b h. cipher_of_inv_cipher (key_schedule k) (key_schedule-bytes k key) (round_count k) (omega arith) b (state_of_block b h);
    }
