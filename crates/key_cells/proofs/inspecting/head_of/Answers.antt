use Rattle.key_cells.proofs.Common.{arith, length-take}
use Rattle.key_cells.proofs.inspecting.head_of.Goals as goal

pub slice_bounds-copy_from_slice-end-2 : goal.slice_bounds-copy_from_slice-end-2
slice_bounds-copy_from_slice-end-2 c = omega (arith, length-take 64 c.args.image.now, c.requires)
