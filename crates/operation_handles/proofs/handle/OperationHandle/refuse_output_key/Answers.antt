use Rattle.operation_handles.proofs.{Common.OperationHandle, Common.Derivations, Common.IsOperation, Common.derived_key_bytes, Common.derived_key_refused, Common.refusal, Common.false, Common.refl, Common.subst, Common.sym, Common.true, Common.◌≡◌, Families.keeps_put, KeyOutputs.deriving_with, KeyOutputs.refused_not_given, Steps.step_is, Steps.step_reply}
use Rattle.operation_handles.proofs.handle.OperationHandle.refuse_output_key.Goals as goal

pub returns-then-not-alive : goal.returns-then-not-alive
returns-then-not-alive c =
    let s = c.args.self.now.states in
    let a = c.args.attributes.now in
    let d : OperationHandle = record c.args.self.now { states = record s { derivation = c.lose_key.new.self } } in record {
      state = λ operation h. subst (λ b. IsOperation d (derived_key_refused b operation a).operation) (sym c.if-not-alive.true)
          (step_is Derivations c.args.self.now d operation false (λ w. derived_key_bytes w a) refl (keeps_put Derivations s (c.lose_key.new.self, s.alg)) (deriving_with a s c.lose_key.new.self false operation c.lose_key.ensures.state) h);
      reply = λ operation h. subst (λ b. refusal c.lose_key.result ≡ (derived_key_refused b operation a).reply) (sym c.if-not-alive.true)
          (step_reply Derivations c.args.self.now operation false (λ w. derived_key_bytes w a) (λ r. refusal c.lose_key.result ≡ r) (λ own seen is. c.lose_key.ensures.reply own is.state) h);
      lease = refl;
    }

pub unreachable-requires : goal.unreachable-requires
unreachable-requires c = refused_not_given c.args.self.now c.args.attributes.now c.in-Ok.field-0 _ _ c.requires.some c.requires.refused c.in-Ok.ensures.key

pub returns : goal.returns
returns c =
    let s = c.args.self.now.states in
    let t = c.key_derivation_output_key.new.self in
    let a = c.args.attributes.now in
    let d : OperationHandle = record c.args.self.now { states = record s { derivation = t } } in record {
      state = λ operation h. subst (λ b. IsOperation d (derived_key_refused b operation a).operation) (sym c.if-not-alive.false)
          (step_is Derivations c.args.self.now d operation true (λ w. derived_key_bytes w a) refl (keeps_put Derivations s (t, s.alg)) (deriving_with a s t true operation c.key_derivation_output_key.ensures.state) h);
      reply = λ operation h. subst (λ b. refusal c.in-Err.status ≡ (derived_key_refused b operation a).reply) (sym c.if-not-alive.false)
          (step_reply Derivations c.args.self.now operation true (λ w. derived_key_bytes w a) (λ r. refusal c.in-Err.status ≡ r) (λ own seen is. sym (c.in-Err.ensures.key own is.state).0) h);
      lease = refl;
    }
