use Rattle.aes_core.proofs.{Common.MIXED_ROWS, Common.SBOX, Common.arith, Common.sbox, Common.sbox-byte, BoxValues.sbox_at, MixedTables.column_of_tables, MixedTables.mixed_rows}
use Rattle.aes_core.proofs.mixed_tables.mixed_column.Goals as goal

pub returns : goal.returns
returns c = column_of_tables MIXED_ROWS SBOX sbox 2 3 1 1 c.args.a c.args.b c.args.c c.args.d mixed_rows sbox_at sbox-byte (omega arith)
