use Rattle.key_wrap.proofs.Common.{LeadBack, List, aes_decrypt, length, ℕ, ◌*◌, ◌+◌, ◌/◌}
use Rattle.key_wrap.proofs.Rotations.{turned}
use Rattle.key_wrap.proofs.unwrapping.unwrap_turn.Given as goal

abbrev pub invariant-registers : goal.invariant-registers
invariant-registers l = (r : List ℕ) → LeadBack (aes_decrypt l.kek) (l.before + length l.fn.row / 8) l.fn.register l.fn.row r
    → LeadBack (aes_decrypt l.kek) (l.before + l.i) l.register (turned (8 * l.i) l.row) r
