use Rattle.aead_gcm.proofs.CounterBlocks.{of_12_bytes, of_other_lengths}
use Rattle.aead_gcm.proofs.counters.initial_counter_block.Goals as goal

pub returns-then-nonce-eq12 : goal.returns-then-nonce-eq12
returns-then-nonce-eq12 c = λ e h. of_12_bytes e c.args.nonce.now c.filled_number.result c.increment.result c.if-nonce-eq12.true c.filled_number.ensures.number c.increment.ensures

pub returns-else-nonce-eq12 : goal.returns-else-nonce-eq12
returns-else-nonce-eq12 c = λ e h. of_other_lengths e c.args.nonce.now c.args.subkey c.ghash_of.result c.if-nonce-eq12.false c.ghash_of.ensures h
