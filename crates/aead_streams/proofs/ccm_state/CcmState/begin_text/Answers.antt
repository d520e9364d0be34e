use Rattle.aead_streams.proofs.{Common.[], Common.aes_encrypt, Common.arith, Common.chain_after, Common.chain_start, Common.length, CcmTags.data_ended}
use Rattle.aead_streams.proofs.ccm_state.CcmState.begin_text.Goals as goal

pub returns : goal.returns
returns c = λ t nonce p ad h.
    let e = aes_encrypt c.args.key.now in
    record {
      counts = h.counts;
      within = omega arith;
      chain = λ rest.
          data_ended e c.fill.new.self.value c.fill.new.self.waiting (chain_start c.args.key.now t nonce (length ad) p) (chain_after e c.args.self.now.chain []) ad rest
          c.fill.ensures.empty c.fill.ensures.chain (h.chain []);
    }
