use Rattle.cmac_ops.proofs.{Common.refl, Chaining.enciphered}
use Rattle.cmac_ops.proofs.chain.Chain.make_room.Goals as goal

pub returns-then-self-eq16-clause-chained : goal.returns-then-self-eq16-clause-chained
returns-then-self-eq16-clause-chained c = λ m h.
    enciphered c.args.self.now _ c.args.key.now m c.number_of.result c.if-self-eq16.true c.number_of.ensures.block c.encrypt_number-self.ensures refl h
