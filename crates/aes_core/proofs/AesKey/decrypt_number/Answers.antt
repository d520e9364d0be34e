use Rattle.aes_core.proofs.{Common.number_block, Common.◌∙◌, KeyRules.ready, KeyRules.inv_cipher_of}
use Rattle.aes_core.proofs.AesKey.decrypt_number.Goals as goal

pub returns : goal.returns
returns c =
    let s = c.self.inside in
    let is = ready c.args.self.now s.schedule s.inverse s.rounds c.self.invariant c.self.view_is c.requires in
    c.eq_inv_cipher.ensures s.schedule is.inv_words ∙ inv_cipher_of c.args.self.now s.schedule s.inverse (number_block c.args.block) s.rounds is
