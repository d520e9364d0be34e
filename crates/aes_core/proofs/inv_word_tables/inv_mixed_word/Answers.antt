use Rattle.aes_core.proofs.{Common.arith, MixedTables.word_of_tables}
use Rattle.aes_core.proofs.inv_word_tables.inv_mixed_word.Goals as goal

pub returns : goal.returns
returns c = word_of_tables c.args.column (omega arith)
