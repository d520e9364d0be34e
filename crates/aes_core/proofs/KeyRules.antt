-- What the fields of a key say of the ciphers under it.
use Rattle.aes_core.proofs.Common.{IsKey, IsReadyOrWiped, IsScheduleOf, List, aes_decrypt, aes_encrypt, ap, arith, word_bytes, cipher, inl, inr, inv_cipher, key_of, key_schedule, length, sym, take, ℕ, ◌*◌, ◌+◌, ◌-◌, ◌∙◌, ◌≡◌}
use Rattle.aes_core.proofs.{WordBytes.bytes_of-take, RoundKeys.AgreeBelow, RoundKeys.agree_taken, RoundKeys.cipher_same, RoundKeys.inv_cipher_same}

-- what the fields of a key that is not wiped stand for
pub ready : (k s v : List ℕ) (nr : ℕ) → IsReadyOrWiped nr s v → key_of nr s ≡ k → IsKey k → IsScheduleOf nr s v k
ready k s v nr (inl h) is key = rw is at h
ready k s v nr (inr w) is key =
    let none : nr - 6 ≡ 0 = omega (arith, w.none) in
    let empty : length k ≡ 0 = sym (ap length is) ∙ ap (λ (n : ℕ). length (word_bytes (take n s))) none in
    absurd (omega arith)

agree : (k s v : List ℕ) (nr : ℕ) → IsScheduleOf nr s v k → AgreeBelow (16 * (nr + 1)) (word_bytes s) (key_schedule k)
agree k s v nr h =
    let count : 4 * (4 * (nr + 1)) ≡ 16 * (nr + 1) = omega arith in
    agree_taken (16 * (nr + 1)) (word_bytes s) (key_schedule k) (rw count at (sym (bytes_of-take (4 * (nr + 1)) s)) ∙ h.words)

pub cipher_of : (k s v block : List ℕ) (nr : ℕ) → IsScheduleOf nr s v k → cipher (word_bytes s) nr block ≡ aes_encrypt k block
unfolding aes_encrypt
cipher_of k s v block nr h = cipher_same (word_bytes s) (key_schedule k) block nr (agree k s v nr h) ∙ ap (λ (n : ℕ). cipher (key_schedule k) n block) h.count

pub inv_cipher_of : (k s v block : List ℕ) (nr : ℕ) → IsScheduleOf nr s v k → inv_cipher (word_bytes s) nr block ≡ aes_decrypt k block
unfolding aes_decrypt
inv_cipher_of k s v block nr h = inv_cipher_same (word_bytes s) (key_schedule k) block nr (agree k s v nr h) ∙ ap (λ (n : ℕ). inv_cipher (key_schedule k) n block) h.count
