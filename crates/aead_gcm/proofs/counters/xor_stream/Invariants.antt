use Rattle.aead_gcm.proofs.Common.{aes_encrypt, drop, gcm_stream, increased, take, xor_bytes, ◌*◌, ◌++◌, ◌≡◌}
use Rattle.aead_gcm.proofs.counters.xor_stream.Given as goal

abbrev pub invariant-turns : goal.invariant-turns
invariant-turns l = record {
  counter : l.counter ≡ increased l.first l.n;
  text : l.text ≡ xor_bytes (take (16 * l.n) l.fn.text) (gcm_stream (aes_encrypt l.key) l.first l.n) ++ drop (16 * l.n) l.fn.text;
}
