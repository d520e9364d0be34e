use Rattle.aead_streams.proofs.Common.{List, aes_encrypt, ap, append_assoc, arith, chain_start, chained_from, data_front, filled_blocks, length-append, sym, ℕ, ◌++◌, ◌∙◌}
use Rattle.aead_streams.proofs.ccm_state.CcmState.update_ad.Goals as goal

pub returns : goal.returns
returns c = λ t nonce a p ad fits h.
    let piece = c.args.piece.now in
    record {
      counts = h.counts;
      within = omega (arith, length-append ad piece);
      chain = λ rest. c.absorb.ensures rest ∙ h.chain (piece ++ rest)
          ∙ ap (λ (l : List ℕ). chained_from (aes_encrypt c.args.key.now) (chain_start c.args.key.now t nonce a p) (filled_blocks (data_front a ++ l))) (sym (append_assoc ad piece rest));
    }
