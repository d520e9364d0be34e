use Rattle.key_cells.proofs.{Common.cell_count, Common.refl, Directories.kept_start}
use Rattle.key_cells.proofs.directory.Directory.new.Goals as goal

pub invariant_of-result : goal.invariant_of-result
invariant_of-result c = rw (c.in-Ok.ensures.items_if_clones_equal (λ state is. is), c.in-Ok-new.ensures.ok, c.new.ensures) (kept_start cell_count refl)
