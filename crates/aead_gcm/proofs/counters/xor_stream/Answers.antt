use Rattle.aead_gcm.proofs.{Common.List, Common.aes_encrypt, Common.ap, Common.arith, Common.drop, Common.gcm_stream, Common.number_block, Common.refl, Common.sym, Common.take, Common.xor_bytes, Common.ℕ, Common.◌*◌, Common.◌++◌, Common.◌+◌, Common.◌∙◌, CounterBlocks.increased_by_0, CounterBlocks.increased_next, CounterBlocks.length-gcm_stream, CounterBlocks.gcm_stream_next}
use Rattle.crypto_specs.proofs.XorBytes.{next_block_xored, blocks_xored}
use Rattle.aead_gcm.proofs.counters.xor_stream.Goals as goal

pub turns-init : goal.turns-init
turns-init c = record { counter = increased_by_0 c.args.first; text = refl }

pub turns-preserved : goal.turns-preserved
turns-preserved c =
    let e = aes_encrypt c.args.key.now in
    let y = c.args.first in
    let n = c.turns.n in
    let whole = c.args.text.now in
    let stream = gcm_stream e y n in
    let counter = c.increment-counter.ensures ∙ increased_next y n c.turns.counter c.turns.invariant.counter in
    let block = c.encrypt_number.ensures ∙ ap (λ (k : ℕ). e (number_block k)) counter in
    record {
      counter = counter;
      text = next_block_xored whole c.turns.text c.xor_into.new.piece stream (number_block c.encrypt_number.result) n c.min-end.result (length-gcm_stream c.args.key.now y n) (omega arith) c.turns.auto.text c.min-end.ensures c.turns.invariant.text c.xor_into.ensures
          ∙ ap (λ (s : List ℕ). xor_bytes (take (16 * (n + 1)) whole) s ++ drop (16 * (n + 1)) whole) (ap (λ (b : List ℕ). stream ++ b) block ∙ sym (gcm_stream_next e y n));
    }

pub returns : goal.returns
returns c =
    let e = aes_encrypt c.args.key.now in
    blocks_xored c.args.text.now c.turns.text (gcm_stream e c.args.first c.turns.n) c.turns.n (omega arith) c.turns.invariant.text
    ∙ ap (λ (n : ℕ). xor_bytes c.args.text.now (gcm_stream e c.args.first n)) (omega arith)
