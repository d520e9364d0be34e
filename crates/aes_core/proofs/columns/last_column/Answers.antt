use Rattle.aes_core.proofs.Common.{refl, ◌∙◌}
use Rattle.aes_core.proofs.columns.last_column.Goals as goal

pub returns : goal.returns
returns c =
    c.word_of.ensures
    ∙ rw (
      c.sub_byte.ensures,
      c.to_be_bytes.ensures,
      c.sub_byte-2.ensures,
      c.to_be_bytes-2.ensures,
      c.sub_byte-3.ensures,
      c.to_be_bytes-3.ensures,
      c.sub_byte-4.ensures,
      c.to_be_bytes-4.ensures,
    ) refl
