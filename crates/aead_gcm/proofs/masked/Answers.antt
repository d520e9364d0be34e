use Rattle.aead_gcm.proofs.Common.{block_of_xor}
use Rattle.aead_gcm.proofs.masked.Goals as goal

pub returns-clause-value : goal.returns-clause-value
returns-clause-value c = block_of_xor c.args.mask.now c.args.hash
