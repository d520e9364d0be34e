use Rattle.aead_ccm.proofs.{Common.ap, Common.to_be_bytes, Common.w128, Common.◌∙◌, Formats.nonce_block_is}
use Rattle.aead_ccm.proofs.formatting.nonce_block.Goals as goal

pub returns : goal.returns
returns c =
    let block = c.put_at.new.block in
    let number = c.to_be_bytes-block.ensures ∙ ap (to_be_bytes w128) c.from.ensures in
    c.number_of.ensures.block
    ∙ nonce_block_is c.args.nonce.now c.to_be_bytes-block.result block c.args.first c.args.number c.requires.low c.requires.high number c.put_at.ensures
