use Rattle.aead_streams.proofs.{Common.aes_encrypt, Absorbing.front_absorbed}
use Rattle.aead_streams.proofs.ccm_chain.Chain.absorb_front.Goals as goal

pub returns : goal.returns
returns c = λ rest.
    front_absorbed (aes_encrypt c.args.key.now) c.args.self.now.value c.filled_number.result c.encrypt_number-self.result c.args.self.now.waiting c.args.piece.now rest c.requires.none c.requires.long c.filled_number.ensures.block c.encrypt_number-self.ensures
