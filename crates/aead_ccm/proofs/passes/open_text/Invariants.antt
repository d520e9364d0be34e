use Rattle.aead_ccm.proofs.Common.{aes_encrypt, block_count, chained_from, drop, filled_blocks, length, masks, number_block, take, xor_bytes, ◌*◌, ◌++◌, ◌≡◌}
use Rattle.aead_ccm.proofs.passes.open_text.Given as goal

abbrev pub invariant-turns : goal.invariant-turns
invariant-turns l = record {
  text : l.text ≡ xor_bytes (take (16 * l.n) l.fn.text) (masks (aes_encrypt l.key) l.first l.n) ++ drop (16 * l.n) l.fn.text;
  chain : chained_from (aes_encrypt l.key) (number_block l.value) (filled_blocks (drop (16 * l.n) (xor_bytes l.fn.text (masks (aes_encrypt l.key) l.first (block_count (length l.fn.text))))))
      ≡ chained_from (aes_encrypt l.key) (number_block l.chain) (filled_blocks (xor_bytes l.fn.text (masks (aes_encrypt l.key) l.first (block_count (length l.fn.text)))));
}
