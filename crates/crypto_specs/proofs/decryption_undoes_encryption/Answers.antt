use Rattle.crypto_specs.proofs.CipherInverseKeys.{decryption_undoes}
use Rattle.crypto_specs.proofs.decryption_undoes_encryption.Goals as goal

pub returns : goal.returns
returns c = decryption_undoes
