use Rattle.aead_ccm.proofs.Common.{aes_encrypt, chained_from, drop, filled_blocks, number_block, ◌*◌, ◌≡◌}
use Rattle.aead_ccm.proofs.chaining.chain_text.Given as goal

abbrev pub invariant-turns : goal.invariant-turns
invariant-turns l = chained_from (aes_encrypt l.key) (number_block l.value) (filled_blocks (drop (16 * l.n) l.text)) ≡ chained_from (aes_encrypt l.key) (number_block l.start) (filled_blocks l.text)
