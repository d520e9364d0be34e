use Rattle.aes_core.proofs.{Common.number_block, Common.◌∙◌, KeyRules.ready, KeyRules.cipher_of}
use Rattle.aes_core.proofs.AesKey.encrypt_number.Goals as goal

pub returns : goal.returns
returns c =
    let s = c.self.inside in
    c.cipher.ensures ∙ cipher_of c.args.self.now s.schedule s.inverse (number_block c.args.block) s.rounds (ready c.args.self.now s.schedule s.inverse s.rounds c.self.invariant c.self.view_is c.requires)
