-- What calls with a key draw.
use Rattle.std.proofs.Common.{Bool, List, None, Option, Some, arith, length, refl, true, ℕ, ◌++◌, ◌+◌, ◌≡◌, ◌≤◌}
use Rattle.single_part.proofs.Common.{Cipher, CipherEncrypt, Class, Computed, Ctr, DrawsAVector, DrawsOnSuccess, Export, Key, Mode, RandomStream, Reply, Status, Success, bytes_of_key, cipher_usage, computed_unless, drawn_from, enciphered, encrypt_rows, first_row, given, is_ctr, iv_length, mode_of, replies, use_rows, words_used}
use Rattle.std.specs.FinMap as map
use Rattle.store_model.proofs.Tables.{refused_by}

-- nothing is drawn from a stream
pub draws_none : (stream : RandomStream) → stream ≡ drawn_from stream 0
draws_none stream = let words : stream.place ≡ stream.place + words_used 0 = omega arith in λ i. record stream { place = words i }

vector_within : (mode : Mode) → iv_length mode ≤ 16
vector_within Ctr = omega arith
vector_within _ = omega arith

one_vector : (o : Option Status) (mode : Mode) (reply : Reply) → (computed_unless o (record { reply = reply; drawn = iv_length mode })).drawn ≤ 16
one_vector None mode reply = vector_within mode
one_vector (Some status) mode reply = omega arith

pub few : DrawsAVector
few (CipherEncrypt alg input) key random room =
    let vector : List ℕ = random (iv_length (mode_of alg.0)) in
    one_vector (first_row (encrypt_rows (mode_of alg.0) (length input.now) room)) (mode_of alg.0) (given (vector ++ enciphered (mode_of alg.0) key vector input.now))
few _ key random room = omega arith

-- no row answers SUCCESS

abbrev Refuses : Status → Type 0
Refuses status = status ≡ Success → ⊥

use_refuses : (on_device : Bool) (class : Class) (usage alg : ℕ) (found : Option Key) (status : Status) → first_row (use_rows on_device class usage alg found) ≡ Some status → Refuses status
use_refuses on_device class usage alg None = refused_by Refuses (use_rows on_device class usage alg None) (λ on is. cc, tt)
use_refuses on_device class usage alg (Some key) =
    refused_by Refuses (use_rows on_device class usage alg (Some key)) (λ on is. cc, (λ on is. cc, (λ on is. cc, (λ on is. cc, (λ on is. cc, tt)))))

encrypt_refuses : (mode : Mode) (bytes room : ℕ) (status : Status) → first_row (encrypt_rows mode bytes room) ≡ Some status → Refuses status
encrypt_refuses mode bytes room = refused_by Refuses (encrypt_rows mode bytes room) (λ on is. cc, (λ on is. cc, tt))

-- a vector is drawn exactly where the call succeeds
abbrev Draws : ℕ → Computed → Type 0
Draws n computed = (computed.reply.status ≡ Success → computed.drawn ≡ n) × ((computed.reply.status ≡ Success → ⊥) → computed.drawn ≡ 0)

draws_nothing : (o : Option Status) (reply : Reply) → Draws 0 (computed_unless o (replies reply))
draws_nothing None reply = (λ is. refl, λ is. refl)
draws_nothing (Some status) reply = (λ is. refl, λ is. refl)

draws_unless : (o p : Option Status) (bytes : List ℕ) (n : ℕ) → ((status : Status) → o ≡ Some status → Refuses status) → ((status : Status) → p ≡ Some status → Refuses status) →
    Draws n (computed_unless o (computed_unless p (record { reply = given bytes; drawn = n })))
draws_unless None None bytes n first second = (λ is. refl, λ is. absurd (is refl))
draws_unless None (Some status) bytes n first second = (λ is. absurd (second status refl is), λ is. refl)
draws_unless (Some status) p bytes n first second = (λ is. absurd (first status refl is), λ is. refl)

pub exact : DrawsOnSuccess
exact store caller random (CipherEncrypt alg input) id room =
    let mode : Mode = mode_of alg.0 in
    let found : Option Key = map.get store.keys id in
    let vector : List ℕ = random (iv_length mode) in
    draws_unless (first_row (use_rows (is_ctr mode) Cipher (cipher_usage true) alg.0 found)) (first_row (encrypt_rows mode (length input.now) room))
    (vector ++ enciphered mode (bytes_of_key found) vector input.now) (iv_length mode)
    (use_refuses (is_ctr mode) Cipher (cipher_usage true) alg.0 found) (encrypt_refuses mode (length input.now) room)
exact store caller random Export id room = (λ is. refl, λ is. refl)
exact store caller random _ id room = draws_nothing _ _
