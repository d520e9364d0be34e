use Rattle.key_cells.proofs.{Common.refl, Layouts.is_store}
use Rattle.key_cells.proofs.layout.read_layout.Goals as goal

pub returns-then-has_size : goal.returns-then-has_size
returns-then-has_size c =
    let has = c.if-has_size.ensures.0 refl in
    (has, λ image is. is_store c.args.header.now image c.args.size is c.layout_by_byte-layout.result c.layout_by_byte-layout.ensures (c.if-is_named.ensures.0 refl) has)
