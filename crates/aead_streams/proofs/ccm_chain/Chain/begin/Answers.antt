use Rattle.aead_streams.proofs.{Common.List, Common.aes_encrypt, Common.ap, Common.chained_from, Common.control_block, Common.data_front, Common.filled_blocks, Common.ℕ, Common.◌++◌, Common.◌∙◌, Absorbing.first_chained}
use Rattle.aead_streams.proofs.ccm_chain.Chain.begin.Goals as goal

pub returns : goal.returns
returns c = λ rest.
    let e = aes_encrypt c.args.key.now in
    let text : List ℕ = data_front c.args.ad ++ rest in
    c.absorb_length.ensures rest ∙ c.start.ensures text
    ∙ ap (λ (y : List ℕ). chained_from e y (filled_blocks text))
    (first_chained e c.control_block.result (control_block c.args.tag c.args.nonce.now c.args.ad c.args.payload) c.control_block.ensures)
