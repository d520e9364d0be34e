use Rattle.aead_gcm.proofs.{Common.block_count, Common.drop, Common.length, Common.◌*◌, Common.◌-◌, Common.◌≡◌, GhashSteps.rest_from}
use Rattle.aead_gcm.proofs.hashing.absorb.Given as goal

abbrev pub invariant-turns : goal.invariant-turns
invariant-turns l = record {
  key : l.running.0 ≡ l.fn.running.0;
  rest : rest_from l.fn.running.0 l.running.1 (block_count (length l.text) - l.n) (drop (16 * l.n) l.text)
      ≡ rest_from l.fn.running.0 l.fn.running.1 (block_count (length l.text)) l.text;
}
