use Rattle.cipher_modes.proofs.{Common.List, Common.aes_decrypt, Common.ap, Common.arith, Common.ecb_blocks, Common.ecb_decrypt, Common.length, Common.length-number_block, Common.map, Common.refl, Common.sym, Common.ℕ, Common.◌∙◌, Common.◌∷◌, InPlace.block_done, InPlace.all_done, InPlace.none_done}
use Rattle.cipher_modes.proofs.ecb.ecb_decrypt.Goals as goal

pub turns-init : goal.turns-init
unfolding ecb_decrypt
turns-init c = none_done (ecb_blocks (aes_decrypt c.args.key.now)) c.args.text.now

pub turns-preserved : goal.turns-preserved
turns-preserved c =
    let e = aes_decrypt c.args.key.now in
    let out = c.set_number.ensures ∙ c.decrypt_number.ensures ∙ ap e c.number_of.ensures.block in
    block_done (ecb_blocks e) (ecb_blocks e) c.turns.text c.set_number.new.block c.turns.n _ (omega arith) (omega arith)
    (ap length c.set_number.ensures ∙ length-number_block _)
    (λ rest. ap (λ (b : List ℕ). b ∷ map e rest) (sym out))
    ∙ c.turns.invariant

pub returns : goal.returns
returns c = sym (all_done (ecb_blocks (aes_decrypt c.args.key.now)) c.turns.text c.turns.n refl (omega arith) (omega arith)) ∙ c.turns.invariant
