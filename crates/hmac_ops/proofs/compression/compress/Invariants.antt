use Rattle.hmac_ops.proofs.Common.{rounds, ◌*◌, ◌≡◌}
use Rattle.hmac_ops.proofs.compression.compress.Given as goal

abbrev pub invariant-turns : goal.invariant-turns
invariant-turns l = l.variables ≡ rounds l.hash_value l.words (8 * l.turn)
