use Rattle.std.proofs.Common.{arith}
use Rattle.single_part.proofs.Paddings.{padded_parts}
use Rattle.single_part.proofs.modes.fill_padded.Goals as goal

pub returns : goal.returns
returns c =
    padded_parts c.args.text.now c.copy_from_slice.new.self c.fill.new.self _ c.copy_from_slice.ensures.after (omega (arith, c.split_at_mut-front.ensures.back_len, c.requires))
    (c.fill.ensures.after (λ y e. e))
