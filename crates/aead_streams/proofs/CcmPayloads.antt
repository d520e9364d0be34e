-- A payload under the key stream, in pieces.
use Rattle.aead_streams.proofs.Common.{CountsFor, IsAt, KeyStream, List, Whole, aes_encrypt, ap, ap₂, arith, ccm_counter_block, ccm_text, length, length-append, number_block, sym, text_xor, ℕ, ◌++◌, ◌+◌, ◌∙◌, ◌≡◌, ◌≤◌}
use Rattle.aead_ccm.specs.Lengths.{IsNonceLength, IsPayloadLength}
use Rattle.aead_streams.proofs.{StreamLaws.text_xor-append, StreamLaws.length-text_xor, ModeStreams.aes_keeps_length, CcmStreams.ccm_is_from}

-- the next piece
pub piece_counted : (key nonce before piece out : List ℕ) (start p : ℕ) → IsNonceLength (length nonce) → IsPayloadLength (length nonce) p → number_block start ≡ ccm_counter_block nonce 1
    → length before + length piece ≤ p → out ≡ text_xor (aes_encrypt key) Whole start (length before) piece
    → ccm_text (aes_encrypt key) nonce (before ++ piece) ≡ ccm_text (aes_encrypt key) nonce before ++ out
piece_counted key nonce before piece out start p nl pl first fits eo =
    let e = aes_encrypt key in
    let is = ccm_is_from e (aes_keeps_length key) nonce nl.low nl.high start in
    is (before ++ piece) first (omega (arith, length-append before piece))
    ∙ text_xor-append e Whole start before piece 0
    ∙ ap (λ (n : ℕ). text_xor e Whole start 0 before ++ text_xor e Whole start n piece) (omega arith)
    ∙ ap₂ (λ (x y : List ℕ). x ++ y) (sym (is before first (omega arith))) (sym eo)

pub length-ccm_text : (key nonce text : List ℕ) (start p : ℕ) → IsNonceLength (length nonce) → IsPayloadLength (length nonce) p → number_block start ≡ ccm_counter_block nonce 1
    → length text ≤ p → length (ccm_text (aes_encrypt key) nonce text) ≡ length text
length-ccm_text key nonce text start p nl pl first fits =
    ap length (ccm_is_from (aes_encrypt key) (aes_keeps_length key) nonce nl.low nl.high start text first (omega arith)) ∙ length-text_xor (aes_encrypt key) Whole start 0 text

-- the key stream goes on, and all else that counts stays
pub counted_on : {first n m p : ℕ} {s t : KeyStream} {key nonce : List ℕ} (h : CountsFor first s key nonce p n) → IsAt t (aes_encrypt key) Whole h.start m → CountsFor first t key nonce p m
counted_on h stream = record { nonce_length = h.nonce_length; payload_length = h.payload_length; first = h.first; start = h.start; next = h.next; stream = stream }
