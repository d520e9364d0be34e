use Rattle.key_wrap.proofs.Common.{LeadBack, List, aes_decrypt, ℕ, ◌*◌}
use Rattle.key_wrap.proofs.unwrapping.unwrap_row.Given as goal

abbrev pub invariant-turns : goal.invariant-turns
invariant-turns l = (r : List ℕ) → LeadBack (aes_decrypt l.kek) (6 * l.count) l.fn.register l.fn.row r
    → LeadBack (aes_decrypt l.kek) (l.turn * l.count) l.register l.row r
