use Rattle.std.proofs.Common.{Some, ap, arith, eqb-true, length, sym, ◌-◌, ◌∙◌, ◌≡◌}
use Rattle.key_cells.proofs.{Lengthening.fill_filled, Lengthening.nothing_behind, Stages.each_torn, Stages.length_zeros}
use Rattle.key_cells.specs.Layout.{older_size, store_size}
use Rattle.key_cells.proofs.growing.fill_behind.Goals as goal

pub returns-then-is_empty-clause-filled : goal.returns-then-is_empty-clause-filled
returns-then-is_empty-clause-filled g c = λ bytes long is.
    let none : length c.args.zeros.now ≡ 0 = eqb-true (length c.args.zeros.now) 0 (sym c.if-is_empty.ensures) in
    let same : c.args.old ≡ older_size = omega (arith, c.requires.low, ap length c.requires.zeros ∙ length_zeros (c.args.old - older_size), none) in
    is ∙ ap Some (nothing_behind bytes c.args.old long same)

pub write_at-requires : goal.write_at-requires
write_at-requires g c = omega (arith, c.requires.size, c.requires.low, c.requires.high, ap length c.requires.zeros ∙ length_zeros (c.args.old - older_size))

pub returns-clause-filled : goal.returns-clause-filled
returns-clause-filled g c = fill_filled c.write_at.result _ _ c.args.old _ c.requires.low c.requires.high c.requires.zeros c.write_at.ensures.written

pub returns-clause-crash : goal.returns-clause-crash
returns-clause-crash g c = λ bytes each. each_torn older_size store_size bytes older_size _ _ _ (omega arith) c.write_at.ensures.crash each
