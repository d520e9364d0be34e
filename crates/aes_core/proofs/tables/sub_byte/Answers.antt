use Rattle.aes_core.proofs.{Common.arith, BoxValues.sbox_at}
use Rattle.aes_core.proofs.tables.sub_byte.Goals as goal

pub returns : goal.returns
returns c = sbox_at c.args.x (omega arith)
