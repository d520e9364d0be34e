use Rattle.aead_ccm.proofs.Common.{aes_encrypt, chained_from, drop, filled_blocks, masks, number_block, take, xor_bytes, ◌*◌, ◌++◌, ◌≡◌}
use Rattle.aead_ccm.proofs.passes.seal_text.Given as goal

abbrev pub invariant-turns : goal.invariant-turns
invariant-turns l = record {
  text : l.text ≡ xor_bytes (take (16 * l.n) l.fn.text) (masks (aes_encrypt l.key) l.first l.n) ++ drop (16 * l.n) l.fn.text;
  chain : chained_from (aes_encrypt l.key) (number_block l.value) (filled_blocks (drop (16 * l.n) l.fn.text))
      ≡ chained_from (aes_encrypt l.key) (number_block l.chain) (filled_blocks l.fn.text);
}
