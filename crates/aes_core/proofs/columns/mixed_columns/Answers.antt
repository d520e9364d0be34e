use Rattle.aes_core.proofs.{Common.mixed_column, Common.sbox, Common.ℕ, ColumnSums.four_columns}
use Rattle.aes_core.proofs.columns.mixed_columns.Goals as goal

pub returns : goal.returns
returns c =
    four_columns (λ (p q r s : ℕ). mixed_column 2 3 1 1 (sbox p) (sbox q) (sbox r) (sbox s)) 1 c.args.s _ _ _ _
    c.mixed_column.ensures c.mixed_column-2.ensures c.mixed_column-3.ensures c.mixed_column-4.ensures
