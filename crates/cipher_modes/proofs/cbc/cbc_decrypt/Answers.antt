use Rattle.cipher_modes.proofs.{Common.List, Common.aes_decrypt, Common.ap, Common.arith, Common.block_of_xor, Common.cbc_decrypt, Common.cbc_plain_blocks, Common.length, Common.length-number_block, Common.number_block, Common.refl, Common.sym, Common.xor_bytes, Common.ℕ, Common.◌∙◌, Common.◌∷◌, Chaining.cbc_plain_block, InPlace.mode_from, InPlace.block_done, InPlace.all_done, InPlace.none_done}
use Rattle.cipher_modes.proofs.cbc.cbc_decrypt.Goals as goal

pub turns-init : goal.turns-init
unfolding cbc_decrypt
turns-init c =
    let d = aes_decrypt c.args.key.now in
    ap (λ (iv : List ℕ). mode_from (cbc_plain_blocks d iv) 0 c.args.text.now) c.number_of-chain.ensures.block ∙ none_done (cbc_plain_blocks d c.args.iv.now) c.args.text.now

pub turns-preserved : goal.turns-preserved
turns-preserved c =
    let d = aes_decrypt c.args.key.now in
    let chain = number_block c.turns.chain in
    let next = number_block c.number_of-block.result in
    let plain = c.set_number.ensures ∙ block_of_xor c.decrypt_number.result c.turns.chain ∙ ap (λ (b : List ℕ). xor_bytes b chain) c.decrypt_number.ensures in
    block_done (cbc_plain_blocks d chain) (cbc_plain_blocks d next) c.turns.text c.set_number.new.block c.turns.n _ (omega arith) (omega arith)
    (ap length c.set_number.ensures ∙ length-number_block _)
    (λ rest. ap (λ (b : List ℕ). cbc_plain_blocks d chain (b ∷ rest)) (sym c.number_of-block.ensures.block) ∙ cbc_plain_block d chain next c.set_number.new.block plain rest)
    ∙ c.turns.invariant

pub returns : goal.returns
unfolding cbc_plain_blocks
returns c = sym (all_done (cbc_plain_blocks (aes_decrypt c.args.key.now) (number_block c.turns.chain)) c.turns.text c.turns.n refl (omega arith) (omega arith)) ∙ c.turns.invariant
