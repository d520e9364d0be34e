use Rattle.aead_ccm.proofs.{Common.aes_encrypt, Common.control_block, Common.encoded_data, Common.filled_blocks, Common.length, Chains.front_is}
use Rattle.aead_ccm.proofs.chaining.chain_front.Goals as goal

pub returns : goal.returns
returns c =
    front_is (aes_encrypt c.args.key.now) c.control_block.result c.encrypt_number-start.result c.chain_data.result
    (control_block c.args.tag c.args.nonce.now (length c.args.ad.now) c.args.payload) (filled_blocks (encoded_data c.args.ad.now))
    c.control_block.ensures c.encrypt_number-start.ensures c.chain_data.ensures
