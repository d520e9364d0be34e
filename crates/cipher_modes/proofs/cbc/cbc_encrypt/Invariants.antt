use Rattle.cipher_modes.proofs.{Common.aes_encrypt, Common.cbc_blocks, Common.cbc_encrypt, Common.number_block, Common.◌≡◌, InPlace.mode_from}
use Rattle.cipher_modes.proofs.cbc.cbc_encrypt.Given as goal

abbrev pub invariant-turns : goal.invariant-turns
invariant-turns l = mode_from (cbc_blocks (aes_encrypt l.key) (number_block l.chain)) l.n l.text ≡ cbc_encrypt (aes_encrypt l.key) l.fn.iv l.fn.text
