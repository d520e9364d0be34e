use Rattle.aes_core.proofs.{Common.INV_MIXED_ROWS, Common.INV_SBOX, Common.arith, Common.inv_sbox, Common.inv_sbox-byte, BoxValues.inv_sbox_at, MixedTables.column_of_tables, MixedTables.inv_mixed_rows}
use Rattle.aes_core.proofs.inv_mixed_tables.inv_mixed_column.Goals as goal

pub returns : goal.returns
returns c = column_of_tables INV_MIXED_ROWS INV_SBOX inv_sbox 14 11 13 9 c.args.a c.args.b c.args.c c.args.d inv_mixed_rows inv_sbox_at inv_sbox-byte (omega arith)
