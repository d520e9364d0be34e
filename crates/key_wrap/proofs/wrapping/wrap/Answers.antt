use Rattle.key_wrap.proofs.Common.{aes_encrypt, ap, number_register, ◌++◌, ◌∙◌}
use Rattle.key_wrap.proofs.Whole.{wrapped_whole}
use Rattle.key_wrap.proofs.wrapping.wrap.Goals as goal

pub returns : goal.returns
unfolding number_register
returns c =
    let row = c.wrap_row.new.row in
    ap (λ l. l ++ row) c.give_register.ensures.given
    ∙ wrapped_whole (aes_encrypt c.args.kek.now) c.args.key.now c.copy_from_slice.new.self (number_register c.wrap_row.new.register ++ row) c.copy_from_slice.ensures.after c.wrap_row.ensures
