use Rattle.key_cells.proofs.Common.{refl}
use Rattle.std.proofs.lemmas.List.Sorted.{IsPermutation-sym}
use Rattle.key_cells.proofs.directory.take_out.Goals as goal

pub returns-in-Open : goal.returns-in-Open
returns-in-Open c = rw c.in-Open.is (IsPermutation-sym _ _ c.remove.ensures, refl)
