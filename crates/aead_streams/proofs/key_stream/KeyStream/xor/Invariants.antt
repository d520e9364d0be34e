use Rattle.aead_streams.proofs.Common.{CounterWidth, IsAt, aes_encrypt, drop, length, take, text_xor, ℕ, ◌++◌, ◌+◌, ◌-◌, ◌≡◌, ◌≤◌}
use Rattle.aead_streams.proofs.key_stream.KeyStream.xor.Given as goal

abbrev pub invariant-runs : goal.invariant-runs
invariant-runs l = record {
  within : l.done ≤ length l.fn.piece;
  text : (width : CounterWidth) (start n : ℕ) → IsAt l.fn.self (aes_encrypt l.key) width start n
      → l.piece ≡ text_xor (aes_encrypt l.key) width start n (take l.done l.fn.piece) ++ drop l.done l.fn.piece;
  at : (width : CounterWidth) (start n : ℕ) → IsAt l.fn.self (aes_encrypt l.key) width start n → IsAt l.self (aes_encrypt l.key) width start (n + l.done);
}

abbrev pub decreases-runs : goal.decreases-runs
decreases-runs l = length l.initial.piece - l.done
