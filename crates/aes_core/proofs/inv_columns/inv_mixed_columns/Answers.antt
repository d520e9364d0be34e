use Rattle.aes_core.proofs.{Common.inv_sbox, Common.mixed_column, Common.ℕ, ColumnSums.four_columns}
use Rattle.aes_core.proofs.inv_columns.inv_mixed_columns.Goals as goal

pub returns : goal.returns
returns c =
    four_columns (λ (p q r s : ℕ). mixed_column 14 11 13 9 (inv_sbox p) (inv_sbox q) (inv_sbox r) (inv_sbox s)) 3 c.args.s _ _ _ _
    c.inv_mixed_column.ensures c.inv_mixed_column-2.ensures c.inv_mixed_column-3.ensures c.inv_mixed_column-4.ensures
