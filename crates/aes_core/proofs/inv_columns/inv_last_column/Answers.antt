use Rattle.aes_core.proofs.Common.{refl, ◌∙◌}
use Rattle.aes_core.proofs.inv_columns.inv_last_column.Goals as goal

pub returns : goal.returns
returns c =
    c.word_of.ensures
    ∙ rw (
      c.inv_sub_byte.ensures,
      c.to_be_bytes.ensures,
      c.inv_sub_byte-2.ensures,
      c.to_be_bytes-2.ensures,
      c.inv_sub_byte-3.ensures,
      c.to_be_bytes-3.ensures,
      c.inv_sub_byte-4.ensures,
      c.to_be_bytes-4.ensures,
    ) refl
