use Rattle.aead_streams.proofs.{Common.aes_encrypt, Common.◌++◌, Common.◌∙◌, Absorbing.put_waits}
use Rattle.aead_streams.proofs.ccm_chain.Chain.absorb_run.Goals as goal

pub returns-clause-chain : goal.returns-clause-chain
returns-clause-chain c = λ rest.
    put_waits (aes_encrypt c.args.key.now) c.make_room.new.self.value c.make_room.new.self.waiting c.put.new.self c.args.piece.now rest c.put.result c.put.ensures.bytes
    ∙ c.make_room.ensures.chain (c.args.piece.now ++ rest)
