use Rattle.key_wrap.proofs.Common.{List, aes_encrypt, ap, ap₂, number_register, sym, ℕ, ◌++◌, ◌∙◌, ◌≡◌}
use Rattle.key_wrap.proofs.Halves.{length-number_register, register_of_xor}
use Rattle.key_wrap.proofs.Indexed.{wrapped_halves}
use Rattle.key_wrap.proofs.wrapping.wrap_step.Goals as goal

pub returns : goal.returns
returns c = λ rest.
    let e = aes_encrypt c.args.kek.now in
    let a = number_register c.args.register.now in
    let other = c.args.other.now in
    let high = c.halves_of-high.result.0 in
    let low = c.halves_of-high.result.1 in
    let given = c.block_of.ensures ∙ ap (λ (l : List ℕ). a ++ l) c.register_of.ensures in
    let block : e (a ++ other) ≡ number_register high ++ number_register low = sym (c.encrypt_number-block.ensures ∙ ap e given) ∙ c.halves_of-high.ensures in
    wrapped_halves e c.args.number a other rest (number_register high) (number_register low) (length-number_register _) c.requires.other (length-number_register high) block
    ∙ ap₂ (λ (l m : List ℕ). l ++ rest ++ m) (sym (register_of_xor high c.args.number)) (sym c.set_register.ensures)
