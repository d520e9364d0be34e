use Rattle.aead_ccm.proofs.{Common.aes_encrypt, Common.arith, Common.number_block, Common.◌∙◌, Chains.block_chained, Chains.all_chained}
use Rattle.aead_ccm.proofs.chaining.chain_text.Goals as goal

pub turns-preserved : goal.turns-preserved
turns-preserved c =
    block_chained (aes_encrypt c.args.key.now) c.turns.value c.filled_number.result c.encrypt_number-value.result c.turns.n c.min-end.result c.args.text.now (omega arith) c.min-end.ensures c.filled_number.ensures.block c.encrypt_number-value.ensures
    ∙ c.turns.invariant

pub returns : goal.returns
returns c = all_chained (aes_encrypt c.args.key.now) (number_block c.turns.value) c.args.text.now c.turns.n (omega arith) ∙ c.turns.invariant
