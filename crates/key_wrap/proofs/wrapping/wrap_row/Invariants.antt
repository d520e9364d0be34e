use Rattle.key_wrap.proofs.Common.{AreAfter, aes_encrypt, number_register, ◌*◌, ◌++◌}
use Rattle.key_wrap.proofs.wrapping.wrap_row.Given as goal

abbrev pub invariant-turns : goal.invariant-turns
invariant-turns l = AreAfter (aes_encrypt l.kek) (number_register l.fn.register ++ l.fn.row) (l.turn * l.count) l.register l.row
