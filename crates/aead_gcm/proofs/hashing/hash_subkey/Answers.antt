use Rattle.aead_gcm.proofs.Common.{ap, block_number, hash_subkey, number_of_block, sym, ◌∙◌}
use Rattle.aead_gcm.proofs.hashing.hash_subkey.Goals as goal

pub returns : goal.returns
unfolding hash_subkey
returns c = sym (number_of_block c.encrypt_number.result c.encrypt_number.type_inv) ∙ ap block_number c.encrypt_number.ensures
