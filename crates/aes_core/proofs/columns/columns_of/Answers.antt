use Rattle.aes_core.proofs.WordBytes.{block_words}
use Rattle.aes_core.proofs.columns.columns_of.Goals as goal

pub returns : goal.returns
returns c = block_words c.args.block
