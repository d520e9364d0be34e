use Rattle.aead_ccm.proofs.Common.{List, aes_encrypt, ap, arith, block_count, blocks_xored, chained_from, drop, filled_block, filled_blocks, length, masks, next_block_xored, number_block, refl, sym, take, xor_bytes, ℕ, ◌*◌, ◌++◌, ◌+◌, ◌-◌, ◌∙◌, ◌≡◌}
use Rattle.aead_ccm.proofs.{Chains.block_chained, Chains.all_chained, KeyStream.length-masks, KeyStream.masks_next, KeyStream.piece_is, KeyStream.length_xored}
use Rattle.aead_ccm.proofs.passes.open_text.Goals as goal

pub turns-init : goal.turns-init
turns-init c = record { text = refl; chain = refl }

pub turns-preserved : goal.turns-preserved
turns-preserved c =
    let key = c.args.key.now in
    let e = aes_encrypt key in
    let first = c.args.first in
    let n = c.turns.n in
    let end = c.min-end.result in
    let whole = c.args.text.now in
    let ks = masks e first n in
    let long = length-masks key first n in
    let plain = xor_bytes whole (masks e first (block_count (length whole))) in
    let size : length plain ≡ length whole = length_xored key whole first in
    let xored = c.xor_into.ensures ∙ ap (xor_bytes (take (end - 16 * n) (drop (16 * n) c.turns.text))) c.mask.ensures in
    let piece = piece_is key whole c.turns.text c.xor_into.new.piece first n end (omega arith) (omega (arith, c.min-end.ensures)) c.turns.invariant.text xored in
    record {
      text = next_block_xored whole c.turns.text c.xor_into.new.piece ks (number_block c.mask.result) n end long (omega arith) c.turns.auto.text c.min-end.ensures c.turns.invariant.text c.xor_into.ensures
          ∙ ap (λ (s : List ℕ). xor_bytes (take (16 * (n + 1)) whole) s ++ drop (16 * (n + 1)) whole) (ap (λ (b : List ℕ). ks ++ b) c.mask.ensures ∙ sym (masks_next e first n));
      chain = block_chained e c.turns.value c.filled_number.result c.encrypt_number-value.result n end plain (omega (arith, size)) (omega (arith, c.min-end.ensures, c.turns.auto.text, size))
          (c.filled_number.ensures.block ∙ ap filled_block piece) c.encrypt_number-value.ensures
          ∙ c.turns.invariant.chain;
    }

pub returns-clause-text : goal.returns-clause-text
returns-clause-text c =
    let e = aes_encrypt c.args.key.now in
    blocks_xored c.args.text.now c.turns.text (masks e c.args.first c.turns.n) c.turns.n (omega arith) c.turns.invariant.text
    ∙ ap (λ (n : ℕ). xor_bytes c.args.text.now (masks e c.args.first n)) (omega arith)

pub returns-clause-chain : goal.returns-clause-chain
returns-clause-chain c =
    let key = c.args.key.now in
    let e = aes_encrypt key in
    let plain = xor_bytes c.args.text.now (masks e c.args.first (block_count (length c.args.text.now))) in
    all_chained e (number_block c.turns.value) plain c.turns.n (omega (arith, length_xored key c.args.text.now c.args.first)) ∙ c.turns.invariant.chain
    ∙ ap (λ (l : List ℕ). chained_from e (number_block c.args.chain) (filled_blocks l)) (sym (returns-clause-text c))
