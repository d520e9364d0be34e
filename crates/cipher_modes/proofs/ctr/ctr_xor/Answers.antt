use Rattle.cipher_modes.proofs.Common.{List, aes_encrypt, ap, arith, block_number, ctr_xor, drop, key_stream, length-aes_encrypt, number_block, refl, sym, take, xor_bytes, ℕ, ◌*◌, ◌++◌, ◌+◌, ◌∙◌}
use Rattle.crypto_specs.proofs.{KeyStream.length-key_stream, XorBytes.next_block_xored, XorBytes.blocks_xored}
use Rattle.cipher_modes.proofs.CounterBlocks.{key_stream_next, counter_block_is, counter_next, counter_start}
use Rattle.cipher_modes.proofs.ctr.ctr_xor.Goals as goal

pub turns-init : goal.turns-init
turns-init c = record { counter = counter_start c.args.iv.now c.number_of-counter.result c.number_of-counter.ensures.number c.number_of-counter.type_inv; text = refl }

pub turns-preserved : goal.turns-preserved
turns-preserved c =
    let e = aes_encrypt c.args.key.now in
    let iv = c.args.iv.now in
    let n = c.turns.n in
    let whole = c.args.text.now in
    let block = number_block c.encrypt_number.result in
    let stream = key_stream e iv n in
    let is_block = c.encrypt_number.ensures ∙ ap e (counter_block_is iv n c.turns.counter c.turns.invariant.counter) in
    record {
      counter = counter_next c.turns.counter (block_number iv) n c.turns.invariant.counter;
      text = next_block_xored whole c.turns.text c.xor_into.new.piece stream block n c.min-end.result (length-key_stream e (length-aes_encrypt c.args.key.now) iv n) (omega arith) c.turns.auto.text c.min-end.ensures c.turns.invariant.text c.xor_into.ensures
          ∙ ap (λ (s : List ℕ). xor_bytes (take (16 * (n + 1)) whole) s ++ drop (16 * (n + 1)) whole) (ap (λ (b : List ℕ). stream ++ b) is_block ∙ sym (key_stream_next e iv n));
    }

pub returns : goal.returns
unfolding ctr_xor
returns c =
    let e = aes_encrypt c.args.key.now in
    blocks_xored c.args.text.now c.turns.text (key_stream e c.args.iv.now c.turns.n) c.turns.n (omega arith) c.turns.invariant.text
    ∙ ap (λ (n : ℕ). xor_bytes c.args.text.now (key_stream e c.args.iv.now n)) (omega arith)
