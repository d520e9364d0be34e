use Rattle.aead_streams.proofs.{Common.ap, Common.block_number, Common.◌∙◌, Filling.number_of_used}
use Rattle.aead_streams.proofs.block_buffer.BlockBuffer.take.Goals as goal

pub returns-clause-number : goal.returns-clause-number
returns-clause-number c =
    c.number_of-number.ensures.number ∙ number_of_used c.self.inside.used c.self.inside.block c.self.invariant ∙ ap block_number c.self.view_is
