use Rattle.cipher_modes.proofs.Common.{aes_encrypt, block_number, drop, key_stream, take, xor_bytes, ◌%◌, ◌*◌, ◌++◌, ◌+◌, ◌^◌, ◌≡◌}
use Rattle.cipher_modes.proofs.ctr.ctr_xor.Given as goal

abbrev pub invariant-turns : goal.invariant-turns
invariant-turns l = record {
  counter : l.counter ≡ (block_number l.iv + l.n) % 2 ^ 128;
  text : l.text ≡ xor_bytes (take (16 * l.n) l.fn.text) (key_stream (aes_encrypt l.key) l.iv l.n) ++ drop (16 * l.n) l.fn.text;
}
