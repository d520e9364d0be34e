use Rattle.aead_streams.proofs.Common.{IsAt, List, Whole, aes_encrypt, ap, append_assoc, arith, ccm_text, chain_start, chained_from, encoded_data, filled_blocks, length, length-append, subst, sym, text_xor, ℕ, ◌++◌, ◌+◌, ◌∙◌, ◌≡◌}
use Rattle.aead_streams.proofs.CcmPayloads.{counted_on, piece_counted, length-ccm_text}
use Rattle.aead_streams.proofs.ccm_state.CcmState.decrypt.Goals as goal

pub returns-clause-text : goal.returns-clause-text
returns-clause-text c = λ t nonce p ad cipher fits h.
    let e = aes_encrypt c.args.key.now in
    let piece = c.args.piece.now in
    let start = h.counts.start in
    let n : length (ccm_text e nonce cipher) ≡ length cipher = length-ccm_text c.args.key.now nonce cipher start p h.counts.nonce_length h.counts.payload_length h.counts.next (omega arith) in
    piece_counted c.args.key.now nonce cipher piece c.xor.new.piece h.counts.start p h.counts.nonce_length h.counts.payload_length h.counts.next fits
    (c.xor.ensures.text Whole start (length (ccm_text e nonce cipher)) h.counts.stream ∙ ap (λ (k : ℕ). text_xor e Whole start k piece) n)

pub returns-clause-holds : goal.returns-clause-holds
returns-clause-holds c = λ t nonce p ad cipher fits h.
    let e = aes_encrypt c.args.key.now in
    let key = c.args.key.now in
    let piece = c.args.piece.now in
    let out = c.xor.new.piece in
    let start = h.counts.start in
    let plain : List ℕ = ccm_text e nonce cipher in
    let y : List ℕ = chained_from e (chain_start key t nonce (length ad) p) (filled_blocks (encoded_data ad)) in
    let more : ccm_text e nonce (cipher ++ piece) ≡ plain ++ out = returns-clause-text c t nonce p ad cipher fits h in
    let n : length plain ≡ length cipher = length-ccm_text key nonce cipher start p h.counts.nonce_length h.counts.payload_length h.counts.next (omega arith) in
    let m : length (ccm_text e nonce (cipher ++ piece)) ≡ length (cipher ++ piece) =
    length-ccm_text key nonce (cipher ++ piece) start p h.counts.nonce_length h.counts.payload_length h.counts.next (omega (arith, length-append cipher piece)) in
    let place : length plain + length piece ≡ length (ccm_text e nonce (cipher ++ piece)) = omega (arith, length-append cipher piece) in
    record {
      counts = counted_on h.counts (subst (λ (k : ℕ). IsAt c.xor.new.self e Whole start k) place (c.xor.ensures.at Whole start (length plain) h.counts.stream));
      within = omega (arith, length-append cipher piece);
      chain = λ rest. c.absorb.ensures rest ∙ h.chain (out ++ rest)
          ∙ ap (λ (l : List ℕ). chained_from e y (filled_blocks l)) (sym (append_assoc plain out rest) ∙ ap (λ (l : List ℕ). l ++ rest) (sym more));
    }
