use Rattle.cipher_modes.proofs.{Common.aes_decrypt, Common.ecb_blocks, Common.ecb_decrypt, Common.◌≡◌, InPlace.mode_from}
use Rattle.cipher_modes.proofs.ecb.ecb_decrypt.Given as goal

abbrev pub invariant-turns : goal.invariant-turns
invariant-turns l = mode_from (ecb_blocks (aes_decrypt l.key)) l.n l.text ≡ ecb_decrypt (aes_decrypt l.key) l.fn.text
