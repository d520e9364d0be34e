use Rattle.key_cells.proofs.{Common.arith, Common.◌*◌, Common.◌+◌, Common.◌∙◌, Common.◌≡◌, CellsRead.gives_part}
use Rattle.std.specs.Prelude.{◌/◌}
use Rattle.key_cells.proofs.reading.read_block.Goals as goal

pub returns-clause-bytes : goal.returns-clause-bytes
returns-clause-bytes g c =
    let first : c.place.result ≡ 64 + 278528 * (c.args.cell / 256) = omega (arith, c.place.ensures, c.if-cell-ne0.false) in
    gives_part (g.D.Disk.contents c.args.disk.now) (64 + 278528 * (c.args.cell / 256)) c.place.result 278528 c.read_at.new.out first (c.read_at.auto.out ∙ c.requires.room) c.in_ok-read_at.ensures.bytes

pub returns-clause-zeros : goal.returns-clause-zeros
returns-clause-zeros g c is = c.is_zero.ensures.0 is
