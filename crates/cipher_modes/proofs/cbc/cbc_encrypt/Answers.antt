use Rattle.cipher_modes.proofs.{Common.List, Common.aes_encrypt, Common.ap, Common.arith, Common.block_of_xor, Common.cbc_blocks, Common.cbc_encrypt, Common.length, Common.length-number_block, Common.number_block, Common.refl, Common.sym, Common.xor_bytes, Common.ℕ, Common.◌∙◌, Common.◌∷◌, Chaining.cbc_block, InPlace.mode_from, InPlace.block_done, InPlace.all_done, InPlace.none_done}
use Rattle.cipher_modes.proofs.cbc.cbc_encrypt.Goals as goal

pub turns-init : goal.turns-init
unfolding cbc_encrypt
turns-init c =
    let e = aes_encrypt c.args.key.now in
    ap (λ (iv : List ℕ). mode_from (cbc_blocks e iv) 0 c.args.text.now) c.number_of-chain.ensures.block ∙ none_done (cbc_blocks e c.args.iv.now) c.args.text.now

pub turns-preserved : goal.turns-preserved
turns-preserved c =
    let e = aes_encrypt c.args.key.now in
    let chain = number_block c.turns.chain in
    let next = number_block c.encrypt_number-chain.result in
    let xored = block_of_xor c.number_of.result c.turns.chain ∙ ap (λ (b : List ℕ). xor_bytes b chain) c.number_of.ensures.block in
    let out = c.encrypt_number-chain.ensures ∙ ap e xored in
    block_done (cbc_blocks e chain) (cbc_blocks e next) c.turns.text c.set_number.new.block c.turns.n _ (omega arith) (omega arith)
    (ap length c.set_number.ensures ∙ length-number_block _)
    (λ rest. cbc_block e chain _ next out rest ∙ ap (λ (b : List ℕ). b ∷ cbc_blocks e next rest) (sym c.set_number.ensures))
    ∙ c.turns.invariant

pub returns : goal.returns
unfolding cbc_blocks
returns c = sym (all_done (cbc_blocks (aes_encrypt c.args.key.now) (number_block c.turns.chain)) c.turns.text c.turns.n refl (omega arith) (omega arith)) ∙ c.turns.invariant
