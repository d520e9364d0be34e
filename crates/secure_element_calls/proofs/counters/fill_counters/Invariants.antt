use Rattle.std.proofs.Common.{List, take, ℕ, ◌%◌, ◌*◌, ◌+◌, ◌^◌, ◌≡◌}
use Rattle.secure_element_calls.proofs.Common.{ecb_encrypt, key_stream, number_block}
use Rattle.secure_element_calls.proofs.counters.fill_counters.Given as goal

abbrev pub invariant-turns : goal.invariant-turns
invariant-turns l = record {
  counter : l.counter ≡ (l.start + l.n) % 2 ^ 128;
  blocks : (e : List ℕ → List ℕ) → ecb_encrypt e (take (16 * l.n) l.blocks) ≡ key_stream e (number_block l.start) l.n;
}
