use Rattle.cipher_states.proofs.{Common.ap, Common.cipher_work, Common.mode_of, Common.model_mode, Common.refl, Common.◌∙◌, Beginnings.begun_work, Beginnings.no_stream, Beginnings.no_chain}
use Rattle.cipher_states.proofs.running.RunningCipher.begun.Goals as goal

pub returns-clause-holds : goal.returns-clause-holds
returns-clause-holds c = λ alg names.
    let b = c.begin_text.ensures in
    let m = mode_of alg in
    let encrypts = c.args.encrypts in
    record {
      encrypts = b.encrypts;
      mode = ap model_mode b.mode ∙ names;
      key = b.key ∙ c.aes_key.ensures;
      vector = b.has_iv;
      total = b.total;
      before = λ e. refl;
      text = λ e. begun_work (model_mode c.args.mode) encrypts c.begin_text.new.self (cipher_work encrypts alg c.args.key.now) _ names refl refl
          (λ f. absurd (no_stream m e f)) (λ f. absurd (no_chain m encrypts e f)) b.stream b.blocks;
    }
