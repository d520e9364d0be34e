use Rattle.hmac_ops.proofs.{Common.List, Common.[], Common.ap, Common.block_length, Common.subst, Common.take, Common.ℕ, Common.◌∙◌, Common.◌≡◌, Padding.pad_of}
use Rattle.hash_ops.specs.States.{HashHolds}
use Rattle.hmac_ops.proofs.key.HmacKey.new.Goals as goal

pub returns : goal.returns
returns c =
    let which = c.args.which in
    let front : (pad : List ℕ) → take c.block_length-length.result pad ≡ take (block_length which) pad = λ pad. ap (λ (n : ℕ). take n pad) c.block_length-length.ensures in
    record {
      inner = subst (λ (m : List ℕ). HashHolds c.update.new.self which m) (front _ ∙ pad_of (block_length which) _ _ _ 0x36 c.key_block-block.ensures c.xored_with-inner_pad.ensures) (c.update.ensures.holds which [] c.new-inner.ensures);
      outer = subst (λ (m : List ℕ). HashHolds c.update-2.new.self which m) (front _ ∙ pad_of (block_length which) _ _ _ 0x5c c.key_block-block.ensures c.xored_with-outer_pad.ensures) (c.update-2.ensures.holds which [] c.new-outer.ensures);
    }
