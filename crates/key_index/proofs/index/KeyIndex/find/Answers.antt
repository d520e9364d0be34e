use Rattle.key_index.proofs.Entries.{gap_has_none}
use Rattle.key_index.proofs.index.KeyIndex.find.Goals as goal

pub returns-in-Err : goal.returns-in-Err
returns-in-Err g c = λ i. gap_has_none _ _ i _ (rw (c.as_slice.ensures.value, c.self.view_is) at c.in-Err.ensures.missing)
