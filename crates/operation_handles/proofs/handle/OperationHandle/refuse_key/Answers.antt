use Rattle.operation_handles.proofs.{Common.After, Common.OperationHandle, Common.DerivationWork, Common.Derivations, Common.IsDerivationOperation, Common.IsOperation, Common.key_refused, Common.plain_reply, Common.refusal, Common.false, Common.refl, Common.subst, Common.sym, Common.true, Common.◌≡◌, Families.keeps_put, KeyInputs.refused_own, KeyInputs.refusing, KeyInputs.refusing_with}
use Rattle.operation_handles.proofs.Steps.{step_is, step_reply}
use Rattle.operation_handles.proofs.handle.OperationHandle.refuse_key.Goals as goal

pub returns-then-not-alive : goal.returns-then-not-alive
returns-then-not-alive c =
    let s = c.args.self.now.states in
    let d : OperationHandle = record c.args.self.now { states = record s { derivation = c.lose_key.new.self } } in record {
      state = λ operation h. subst (λ b. IsOperation d (key_refused b operation c.args.step).operation) (sym c.if-not-alive.true)
          (step_is Derivations c.args.self.now d operation false (refusing c.args.step) refl (keeps_put Derivations s (c.lose_key.new.self, s.alg)) (refusing_with c.args.step s c.lose_key.new.self false operation (λ own seen is. c.lose_key.ensures.state own is)) h);
      reply = λ operation h. subst (λ b. refusal c.lose_key.result ≡ (key_refused b operation c.args.step).reply) (sym c.if-not-alive.true)
          (step_reply Derivations c.args.self.now operation false (refusing c.args.step) (λ r. refusal c.lose_key.result ≡ r) (λ own seen is. c.lose_key.ensures.reply own is.state) h);
      lease = refl;
    }

pub returns : goal.returns
returns c =
    let s = c.args.self.now.states in
    let t = c.key_derivation_input_key.new.self in
    let answer = plain_reply c.key_derivation_input_key.result in
    let d : OperationHandle = record c.args.self.now { states = record s { derivation = t } } in record {
      state = λ operation h. subst (λ b. IsOperation d (key_refused b operation c.args.step).operation) (sym c.if-not-alive.false)
          (step_is Derivations c.args.self.now d operation true (refusing c.args.step) refl (keeps_put Derivations s (t, s.alg)) (refusing_with c.args.step s t true operation
          (λ own seen is. subst (λ (a : After DerivationWork). IsDerivationOperation t a.operation) (refused_own operation own c.args.step (c.requires operation h) seen) (c.key_derivation_input_key.ensures.state own is))) h);
      reply = λ operation h. subst (λ b. answer ≡ (key_refused b operation c.args.step).reply) (sym c.if-not-alive.false)
          (step_reply Derivations c.args.self.now operation true (refusing c.args.step) (λ r. answer ≡ r)
          (λ own seen is. subst (λ (a : After DerivationWork). answer ≡ a.reply) (refused_own operation own c.args.step (c.requires operation h) seen) (c.key_derivation_input_key.ensures.reply own is.state)) h);
      lease = refl;
    }
