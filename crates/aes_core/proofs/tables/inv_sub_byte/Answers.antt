use Rattle.aes_core.proofs.{Common.arith, BoxValues.inv_sbox_at}
use Rattle.aes_core.proofs.tables.inv_sub_byte.Goals as goal

pub returns : goal.returns
returns c = inv_sbox_at c.args.x (omega arith)
