use Rattle.cipher_modes.proofs.{Common.aes_encrypt, Common.ecb_blocks, Common.ecb_encrypt, Common.◌≡◌, InPlace.mode_from}
use Rattle.cipher_modes.proofs.ecb.ecb_encrypt.Given as goal

abbrev pub invariant-turns : goal.invariant-turns
invariant-turns l = mode_from (ecb_blocks (aes_encrypt l.key)) l.n l.text ≡ ecb_encrypt (aes_encrypt l.key) l.fn.text
