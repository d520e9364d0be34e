use Rattle.aead_ccm.proofs.{Common.List, Common.aes_encrypt, Common.ap, Common.arith, Common.blocks_xored, Common.drop, Common.filled_block, Common.masks, Common.next_block_xored, Common.number_block, Common.refl, Common.sym, Common.take, Common.xor_bytes, Common.ℕ, Common.◌*◌, Common.◌++◌, Common.◌+◌, Common.◌-◌, Common.◌∙◌, Chains.block_chained, Chains.all_chained}
use Rattle.aead_ccm.proofs.KeyStream.{length-masks, masks_next, left_over}
use Rattle.aead_ccm.proofs.passes.seal_text.Goals as goal

pub turns-init : goal.turns-init
turns-init c = record { text = refl; chain = refl }

pub turns-preserved : goal.turns-preserved
turns-preserved c =
    let e = aes_encrypt c.args.key.now in
    let first = c.args.first in
    let n = c.turns.n in
    let end = c.min-end.result in
    let whole = c.args.text.now in
    let ks = masks e first n in
    let long = length-masks c.args.key.now first n in
    let left = left_over whole c.turns.text ks (16 * n) (omega arith) long c.turns.invariant.text in
    record {
      text = next_block_xored whole c.turns.text c.xor_into.new.piece ks (number_block c.mask.result) n end long (omega arith) c.turns.auto.text c.min-end.ensures c.turns.invariant.text c.xor_into.ensures
          ∙ ap (λ (s : List ℕ). xor_bytes (take (16 * (n + 1)) whole) s ++ drop (16 * (n + 1)) whole) (ap (λ (b : List ℕ). ks ++ b) c.mask.ensures ∙ sym (masks_next e first n));
      chain = block_chained e c.turns.value c.filled_number-block.result c.encrypt_number-value.result n end whole (omega arith) (omega (arith, c.min-end.ensures, c.turns.auto.text))
          (c.filled_number-block.ensures.block ∙ ap (λ (l : List ℕ). filled_block (take (end - 16 * n) l)) left) c.encrypt_number-value.ensures
          ∙ c.turns.invariant.chain;
    }

pub returns : goal.returns
returns c =
    let e = aes_encrypt c.args.key.now in
    record {
      text = blocks_xored c.args.text.now c.turns.text (masks e c.args.first c.turns.n) c.turns.n (omega arith) c.turns.invariant.text
          ∙ ap (λ (n : ℕ). xor_bytes c.args.text.now (masks e c.args.first n)) (omega arith);
      chain = all_chained e (number_block c.turns.value) c.args.text.now c.turns.n (omega arith) ∙ c.turns.invariant.chain;
    }
