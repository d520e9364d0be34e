use Rattle.std.proofs.Common.{bytes_eq, take, ◌≡◌}
use Rattle.multipart.proofs.comparing.is_equal.Given as goal

abbrev pub invariant-bytes : goal.invariant-bytes
invariant-bytes l = record { same : l.same ≡ bytes_eq (take l.i l.given) (take l.i l.computed) }
