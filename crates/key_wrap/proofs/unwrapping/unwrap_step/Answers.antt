use Rattle.key_wrap.proofs.Common.{List, aes_decrypt, ap, ap₂, number_register, sym, xor_number, ℕ, ◌++◌, ◌∙◌, ◌≡◌}
use Rattle.key_wrap.proofs.Halves.{length-number_register, register_of_xor}
use Rattle.key_wrap.proofs.Indexed.{unwrapped_halves}
use Rattle.key_wrap.proofs.unwrapping.unwrap_step.Goals as goal

pub returns : goal.returns
returns c = λ rest.
    let d = aes_decrypt c.args.kek.now in
    let a = number_register c.args.register.now in
    let other = c.args.other.now in
    let high = number_register c.halves_of-high.result.0 in
    let low = number_register c.halves_of-high.result.1 in
    let given = c.block_of.ensures ∙ ap₂ (λ (l m : List ℕ). l ++ m) (register_of_xor c.args.register.now c.args.number) c.register_of.ensures in
    let block : d (xor_number a c.args.number ++ other) ≡ high ++ low = sym (c.decrypt_number-block.ensures ∙ ap d given) ∙ c.halves_of-high.ensures in
    unwrapped_halves d c.args.number a rest other high low (length-number_register _) c.requires.other block
    ∙ ap (λ (l : List ℕ). high ++ l ++ rest) (sym c.set_register.ensures)
