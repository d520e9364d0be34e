use Rattle.aead_gcm.proofs.{Common.aes_encrypt, Common.length, Common.number_block, Common.◌∙◌, Tags.tag_is, Tags.text_is}
use Rattle.aead_gcm.proofs.seal.Goals as goal

pub returns : goal.returns
returns c =
    let e = aes_encrypt c.args.key.now in
    let subkey = c.hash_subkey-subkey in
    let first = c.initial_counter_block-first in
    record {
      text = text_is e c.args.nonce.now c.args.text.now c.xor_stream.new.text first.result (first.ensures e subkey.ensures) c.xor_stream.ensures;
      tag = c.give_tag.ensures.front
          ∙ tag_is e c.args.nonce.now c.args.ad.now c.xor_stream.new.text (number_block c.whole_tag-whole.result) subkey.result first.result (length c.args.tag.now) subkey.ensures (first.ensures e) c.whole_tag-whole.ensures;
    }
