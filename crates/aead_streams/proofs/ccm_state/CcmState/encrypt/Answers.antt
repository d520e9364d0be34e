use Rattle.aead_streams.proofs.{Common.IsAt, Common.List, Common.Whole, Common.aes_encrypt, Common.ap, Common.append_assoc, Common.arith, Common.chain_start, Common.chained_from, Common.encoded_data, Common.filled_blocks, Common.length, Common.length-append, Common.subst, Common.sym, Common.ℕ, Common.◌++◌, Common.◌∙◌, CcmPayloads.counted_on, CcmPayloads.piece_counted}
use Rattle.aead_streams.proofs.ccm_state.CcmState.encrypt.Goals as goal

pub returns-clause-holds : goal.returns-clause-holds
returns-clause-holds c = λ t nonce p ad plain fits h.
    let e = aes_encrypt c.args.key.now in
    let piece = c.args.piece.now in
    let start = h.counts.start in
    let y : List ℕ = chained_from e (chain_start c.args.key.now t nonce (length ad) p) (filled_blocks (encoded_data ad)) in
    record {
      counts = counted_on h.counts (subst (λ (n : ℕ). IsAt c.xor.new.self e Whole start n) (sym (length-append plain piece)) (c.xor.ensures.at Whole start (length plain) h.counts.stream));
      within = omega (arith, length-append plain piece);
      chain = λ rest. c.absorb.ensures rest ∙ h.chain (piece ++ rest) ∙ ap (λ (l : List ℕ). chained_from e y (filled_blocks l)) (sym (append_assoc plain piece rest));
    }

pub returns-clause-text : goal.returns-clause-text
returns-clause-text c = λ t nonce p ad plain fits h.
    piece_counted c.args.key.now nonce plain c.args.piece.now c.xor.new.piece h.counts.start p h.counts.nonce_length h.counts.payload_length h.counts.next fits
    (c.xor.ensures.text Whole h.counts.start (length plain) h.counts.stream)
