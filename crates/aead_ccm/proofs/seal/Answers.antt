use Rattle.aead_ccm.proofs.{Common.aes_encrypt, Common.length, Common.◌∙◌, KeyStream.text_is, Tags.tag_is}
use Rattle.aead_ccm.proofs.seal.Goals as goal

pub returns : goal.returns
returns c =
    let e = aes_encrypt c.args.key.now in
    let first = c.counter_block-first in
    record {
      text = text_is e c.args.nonce.now c.args.text.now c.seal_text-mac.new.text first.result c.requires.nonce c.requires.text first.ensures c.seal_text-mac.ensures.text;
      tag = c.give_tag.ensures.front
          ∙ tag_is e c.args.nonce.now c.args.ad.now c.args.text.now (length c.args.tag.now) c.chain_front-chain.result c.seal_text-mac.result first.result c.encrypt_number-mask.result
          c.chain_front-chain.ensures c.seal_text-mac.ensures.chain first.ensures c.encrypt_number-mask.ensures;
    }
