use Rattle.cmac_ops.proofs.{Common.arith, Common.length, Common.length-take, Common.take, Common.ℕ, Common.◌<◌, Chaining.put_some}
use Rattle.cmac_ops.proofs.chain.Chain.take_in.Goals as goal

pub returns-clause-holds : goal.returns-clause-holds
returns-clause-holds c = λ m h.
    let n : ℕ = c.min-count.result in
    let some : 0 < length (take n c.args.piece.now) = omega (arith, length-take n c.args.piece.now) in
    put_some c.make_room.new.self c.put.new.self c.args.key.now m (take n c.args.piece.now) some c.put.ensures.value c.put.ensures.used c.put.ensures.block (c.make_room.ensures.chained m h.chained)
