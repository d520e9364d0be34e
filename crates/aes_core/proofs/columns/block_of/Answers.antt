use Rattle.aes_core.proofs.{Common.arith, WordBytes.block_of_words}
use Rattle.aes_core.proofs.columns.block_of.Goals as goal

pub returns : goal.returns
returns c = block_of_words c.args.s.now _ c.told-s (omega arith) (omega arith) (omega arith) (omega arith)
