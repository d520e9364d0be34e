use Rattle.hmac_ops.proofs.{Common.ap, Common.compress, Common.initial_hash_256, Common.◌∙◌, Padding.pad_of}
use Rattle.hmac_ops.proofs.short_message_key.ShortMessageKey.new.Goals as goal

pub returns : goal.returns
returns c =
    let after = compress initial_hash_256 in
    record {
      inner = record { hash_value = c.new-inner.ensures.hash_value ∙ ap after (c.front.ensures ∙ pad_of 64 _ _ _ 0x36 c.key_block-block.ensures c.xored_with-inner_pad.ensures) };
      outer = record { hash_value = c.new-outer.ensures.hash_value ∙ ap after (c.front-2.ensures ∙ pad_of 64 _ _ _ 0x5c c.key_block-block.ensures c.xored_with-outer_pad.ensures) };
    }
