use Rattle.cipher_modes.proofs.{Common.aes_decrypt, Common.cbc_decrypt, Common.cbc_plain_blocks, Common.number_block, Common.◌≡◌, InPlace.mode_from}
use Rattle.cipher_modes.proofs.cbc.cbc_decrypt.Given as goal

abbrev pub invariant-turns : goal.invariant-turns
invariant-turns l = mode_from (cbc_plain_blocks (aes_decrypt l.key) (number_block l.chain)) l.n l.text ≡ cbc_decrypt (aes_decrypt l.key) l.fn.iv l.fn.text
