use Rattle.aead_streams.proofs.{Common.aes_encrypt, Absorbing.full_absorbed, Absorbing.part_absorbed}
use Rattle.aead_streams.proofs.ccm_chain.Chain.absorb_waiting.Goals as goal

pub returns-clause-full : goal.returns-clause-full
returns-clause-full c = λ long rest.
    full_absorbed (aes_encrypt c.args.key.now) c.args.self.now.value c.take-block.result c.encrypt_number-self.result c.args.self.now.waiting c.take-block.new.self rest long c.take-block.ensures.block c.encrypt_number-self.ensures c.take-block.ensures.empty

pub returns-clause-filled : goal.returns-clause-filled
returns-clause-filled c = λ some.
    part_absorbed (aes_encrypt c.args.key.now) c.args.self.now.value c.take-block.result c.encrypt_number-self.result c.args.self.now.waiting some c.take-block.ensures.block c.encrypt_number-self.ensures
