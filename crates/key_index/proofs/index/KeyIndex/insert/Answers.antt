use Rattle.key_index.proofs.{Common.IsPermutation-insert, Common.arith, Common.entry_at, Entries.found_is_there}
use Rattle.key_index.proofs.index.KeyIndex.insert.Goals as goal

pub returns-in-Err : goal.returns-in-Err
returns-in-Err g c = rw (c.insert.ensures.items, c.self.view_is) (IsPermutation-insert _ _ _)

pub returns-in_default : goal.returns-in_default
returns-in_default g c =
    let found = (rw (c.as_slice.ensures.value, c.self.view_is) at c.in_default.ensures.found) in
    let some = found_is_there _ _ _ found.0 found.1 in
    absurd (omega (arith, some, c.requires.missing (entry_at c.args.self.now c.in_default.field-0).place))
