use Rattle.key_wrap.proofs.Common.{AreAfter, List, aes_encrypt, ℕ, ◌*◌, ◌+◌}
use Rattle.key_wrap.proofs.Rotations.{turned}
use Rattle.key_wrap.proofs.wrapping.wrap_turn.Given as goal

abbrev pub invariant-registers : goal.invariant-registers
invariant-registers l = (r : List ℕ) → AreAfter (aes_encrypt l.kek) r l.done l.fn.register l.fn.row
    → AreAfter (aes_encrypt l.kek) r (l.done + l.i) l.register (turned (8 * l.i) l.row)
