use Rattle.cipher_modes.proofs.PaddingRules.{filled_to_end}
use Rattle.cipher_modes.proofs.padding.pad.Goals as goal

pub returns : goal.returns
returns c = filled_to_end c.args.used c.args.block.now c.fill.new.self c.told-block c.requires (c.fill.ensures.after (λ y e. e))
