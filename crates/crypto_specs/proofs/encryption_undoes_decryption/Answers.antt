use Rattle.crypto_specs.proofs.CipherInverseKeys.{encryption_undoes}
use Rattle.crypto_specs.proofs.encryption_undoes_decryption.Goals as goal

pub returns : goal.returns
returns c = encryption_undoes
