use Rattle.aead_streams.proofs.{Common.ap, Common.ap₂, Common.arith, Common.bit_xor, Common.block_product, Common.ℕ, Common.◌∙◌, Common.◌≡◌, HashSteps.value_of_none}
use Rattle.aead_streams.proofs.text_hash.TextHash.finish.Goals as goal

pub returns : goal.returns
returns c = λ h y text taken.
    let filled = c.fill_up.ensures h y text taken in
    let none : filled.count ≡ 0 = omega (arith, filled.place) in
    c.value.ensures ∙ ap (λ (p : ℕ × ℕ). p.1) c.block.ensures
    ∙ ap₂ (λ (v k : ℕ). block_product (bit_xor v c.args.lengths) k) (filled.value ∙ value_of_none h _ filled.count none) filled.key
