use Rattle.cmac_ops.proofs.{Common.List, Common.aes_encrypt, Common.ap, Common.arith, Common.length, Common.length-take, Common.replicate, Common.sym, Common.take, Common.take_all, Common.ℕ, Common.◌++◌, Common.◌-◌, Common.◌∙◌, Common.◌∷◌, Common.◌≡◌, Chaining.whole_last, Chaining.filled_last, Numbers.length-block}
use Rattle.cmac_ops.proofs.chain.Chain.last_block.Goals as goal

pub returns-then-self-eq16 : goal.returns-then-self-eq16
returns-then-self-eq16 c =
    let s = c.args.self.now in
    let long : length s.block ≡ 16 = length-block c.number_of.result s.block c.number_of.ensures.block in
    let whole : take s.used s.block ≡ s.block = ap (λ (k : ℕ). take k s.block) c.if-self-eq16.true ∙ take_all 16 s.block (omega arith) in
    whole_last (aes_encrypt c.args.key.now) c.encrypt_number.result c.doubled-subkey.result c.encrypt_number.type_inv c.encrypt_number.ensures c.doubled-subkey.ensures
    (take s.used s.block) c.number_of.result (ap length whole ∙ long) (c.number_of.ensures.block ∙ sym whole)

pub returns-else-self-eq16 : goal.returns-else-self-eq16
returns-else-self-eq16 c =
    let s = c.args.self.now in
    let left : List ℕ = take s.used s.block in
    let n : ℕ = c.number_of-else-self-eq16.result in
    let count : length left ≡ s.used = omega (arith, length-take s.used s.block) in
    let filled = c.number_of-else-self-eq16.ensures.block ∙ c.filled.ensures ∙ ap (λ (k : ℕ). left ++ 0x80 ∷ replicate (15 - k) 0) (sym count) in
    filled_last (aes_encrypt c.args.key.now) c.encrypt_number.result c.doubled-subkey.result c.encrypt_number.type_inv c.encrypt_number.ensures c.doubled-subkey.ensures
    left n c.doubled.result c.doubled-subkey.type_inv (omega arith) filled c.doubled.ensures
