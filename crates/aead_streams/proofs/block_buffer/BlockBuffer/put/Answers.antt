use Rattle.aead_streams.proofs.{Common.arith, Common.length-take, Common.take, Filling.put_in}
use Rattle.aead_streams.proofs.block_buffer.BlockBuffer.put.Goals as goal

pub invariant_of-self : goal.invariant_of-self
invariant_of-self c =
    let piece = c.args.piece.now in
    let n = c.min-count.result in
    put_in c.self.inside.used n c.self.inside.block (take n piece) _ (omega (arith, c.self.invariant.limit)) (omega (arith, length-take n piece)) c.self.told c.put_at.ensures c.self.invariant
