use Rattle.key_cells.proofs.Common.{arith, drop, length, take-take, ◌-◌, ◌∙◌}
use Rattle.key_cells.proofs.reading.cell_at.Goals as goal

pub returns : goal.returns
returns c =
    let bytes = c.args.bytes.now in
    (rw c.unwrap.ensures at c.first_chunk.ensures.cases).same ∙ take-take 1088 (length bytes - c.args.place) (drop c.args.place bytes) (omega (arith, c.requires))
