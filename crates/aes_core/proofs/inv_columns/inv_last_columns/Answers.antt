use Rattle.aes_core.proofs.{Common.[], Common.inv_sbox, Common.ℕ, Common.◌∷◌, ColumnSums.four_columns}
use Rattle.aes_core.proofs.inv_columns.inv_last_columns.Goals as goal

pub returns : goal.returns
returns c =
    four_columns (λ (p q r s : ℕ). inv_sbox p ∷ inv_sbox q ∷ inv_sbox r ∷ inv_sbox s ∷ []) 3 c.args.s _ _ _ _
    c.inv_last_column.ensures c.inv_last_column-2.ensures c.inv_last_column-3.ensures c.inv_last_column-4.ensures
