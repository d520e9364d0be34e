use Rattle.cipher_states.proofs.{Common.[], Common.ap, Common.is_some, Common.iv_length, Common.mode_of, Common.model_mode, Common.refl, Common.with_iv, Common.◌==◌, Common.◌∙◌, Common.◌≡◌, Beginnings.begun_work, Beginnings.not_ready}
use Rattle.cipher_states.proofs.running.RunningCipher.take_iv.Goals as goal

pub returns-clause-holds : goal.returns-clause-holds
returns-clause-holds c = λ w h e.
    let b = c.begin_text.ensures in
    let iv = c.args.iv.now in
    let empty : w.text ≡ [] = h.before (not_ready (iv_length (mode_of w.alg) == 0) (is_some w.iv) e) in
    record {
      encrypts = b.encrypts ∙ h.encrypts;
      mode = ap model_mode b.mode ∙ h.mode;
      key = b.key ∙ h.key;
      vector = refl;
      total = b.total ∙ h.total;
      before = λ f. cc;
      text = λ f. begun_work (model_mode c.args.self.now.mode) c.args.self.now.encrypts c.begin_text.new.self (with_iv w iv) iv h.mode h.encrypts empty (λ g. refl) (λ g. refl) b.stream b.blocks;
    }
