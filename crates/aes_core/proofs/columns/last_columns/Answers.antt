use Rattle.aes_core.proofs.{Common.[], Common.sbox, Common.ℕ, Common.◌∷◌, ColumnSums.four_columns}
use Rattle.aes_core.proofs.columns.last_columns.Goals as goal

pub returns : goal.returns
returns c =
    four_columns (λ (p q r s : ℕ). sbox p ∷ sbox q ∷ sbox r ∷ sbox s ∷ []) 1 c.args.s _ _ _ _
    c.last_column.ensures c.last_column-2.ensures c.last_column-3.ensures c.last_column-4.ensures
