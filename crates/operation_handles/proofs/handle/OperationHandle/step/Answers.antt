use Rattle.operation_handles.proofs.Common.{AeadWork, Aeads, After, CipherWork, Ciphers, DerivationWork, Derivations, HashWork, Hashes, MacWork, Macs, aead_step, buffer_after, cipher_step, derivation_step, drawn_from, hash_step, mac_step, model_aead_step, model_cipher_step, model_derivation_step, model_hash_step, model_mac_step, next_bytes, length, refl, ◌≡◌}
use Rattle.service_calls.specs.Answered.{AnswersReply}
use Rattle.operation_handles.proofs.{Deriving.step_key, Deriving.steps_with, Families.keeps_put, Steps.step_is, Steps.step_reply, Steps.step_drawn}
use Rattle.operation_handles.proofs.handle.OperationHandle.step.Goals as goal

pub returns-in-Hash : goal.returns-in-Hash
returns-in-Hash c =
    let s = c.args.self.now.states in
    let e = c.turn.ensures in
    let step : HashWork → After HashWork = λ w. hash_step w (model_hash_step c.in-Hash.step (length c.args.out.now)) in record {
      state = λ operation h. rw c.in-Hash.is (step_is Hashes c.args.self.now (record c.args.self.now { states = record s { hash = c.turn.new.state } }) operation c.args.alive step refl (keeps_put Hashes s c.turn.new.state) (record { state = λ own seen is. e.state own is; key = λ k w may. may }) h);
      reply = λ operation h. rw c.in-Hash.is (step_reply Hashes c.args.self.now operation c.args.alive step (AnswersReply c.turn.result) (λ own seen is. e.reply own is) h);
      buffer = λ operation h. rw c.in-Hash.is (step_reply Hashes c.args.self.now operation c.args.alive step (λ r. c.turn.new.out ≡ buffer_after c.args.out.now r) (λ own seen is. e.buffer own is) h);
      stream = λ operation h. rw c.in-Hash.is (step_drawn Hashes c.args.self.now operation c.args.alive step (λ n. c.turn.new.stream ≡ drawn_from c.args.stream.now n) (λ own is. e.stream own is) h);
      lease = refl;
      few = e.few;
    }

pub returns-in-Mac : goal.returns-in-Mac
returns-in-Mac c =
    let s = c.args.self.now.states in
    let e = c.turn-in-Mac.ensures in
    let step : MacWork → After MacWork = λ w. mac_step w (model_mac_step c.in-Mac.step (length c.args.out.now)) in record {
      state = λ operation h. rw c.in-Mac.is (step_is Macs c.args.self.now (record c.args.self.now { states = record s { mac = c.turn-in-Mac.new.state } }) operation c.args.alive step refl (keeps_put Macs s c.turn-in-Mac.new.state) (record { state = λ own seen is. e.state own is; key = λ k w may. may }) h);
      reply = λ operation h. rw c.in-Mac.is (step_reply Macs c.args.self.now operation c.args.alive step (AnswersReply c.turn-in-Mac.result) (λ own seen is. e.reply own is) h);
      buffer = λ operation h. rw c.in-Mac.is (step_reply Macs c.args.self.now operation c.args.alive step (λ r. c.turn-in-Mac.new.out ≡ buffer_after c.args.out.now r) (λ own seen is. e.buffer own is) h);
      stream = λ operation h. rw c.in-Mac.is (step_drawn Macs c.args.self.now operation c.args.alive step (λ n. c.turn-in-Mac.new.stream ≡ drawn_from c.args.stream.now n) (λ own is. e.stream own is) h);
      lease = refl;
      few = e.few;
    }

pub returns-in-Cipher : goal.returns-in-Cipher
returns-in-Cipher c =
    let s = c.args.self.now.states in
    let e = c.turn-in-Cipher.ensures in
    let step : CipherWork → After CipherWork = λ w. cipher_step (next_bytes c.args.stream.now 16) w (model_cipher_step c.in-Cipher.step (length c.args.out.now)) in record {
      state = λ operation h. rw c.in-Cipher.is (step_is Ciphers c.args.self.now (record c.args.self.now { states = record s { cipher = c.turn-in-Cipher.new.state } }) operation c.args.alive step refl (keeps_put Ciphers s c.turn-in-Cipher.new.state) (record { state = λ own seen is. e.state own is; key = λ k w may. may }) h);
      reply = λ operation h. rw c.in-Cipher.is (step_reply Ciphers c.args.self.now operation c.args.alive step (AnswersReply c.turn-in-Cipher.result) (λ own seen is. e.reply own is) h);
      buffer = λ operation h. rw c.in-Cipher.is (step_reply Ciphers c.args.self.now operation c.args.alive step (λ r. c.turn-in-Cipher.new.out ≡ buffer_after c.args.out.now r) (λ own seen is. e.buffer own is) h);
      stream = λ operation h. rw c.in-Cipher.is (step_drawn Ciphers c.args.self.now operation c.args.alive step (λ n. c.turn-in-Cipher.new.stream ≡ drawn_from c.args.stream.now n) (λ own is. e.stream own is) h);
      lease = refl;
      few = e.few;
    }

pub returns-in-Aead : goal.returns-in-Aead
returns-in-Aead c =
    let s = c.args.self.now.states in
    let e = c.turn-in-Aead.ensures in
    let step : AeadWork → After AeadWork = λ w. aead_step (next_bytes c.args.stream.now 16) w (model_aead_step c.in-Aead.step (length c.args.out.now)) in record {
      state = λ operation h. rw c.in-Aead.is (step_is Aeads c.args.self.now (record c.args.self.now { states = record s { aead = c.turn-in-Aead.new.state } }) operation c.args.alive step refl (keeps_put Aeads s c.turn-in-Aead.new.state) (record { state = λ own seen is. e.state own is; key = λ k w may. may }) h);
      reply = λ operation h. rw c.in-Aead.is (step_reply Aeads c.args.self.now operation c.args.alive step (AnswersReply c.turn-in-Aead.result) (λ own seen is. e.reply own is) h);
      buffer = λ operation h. rw c.in-Aead.is (step_reply Aeads c.args.self.now operation c.args.alive step (λ r. c.turn-in-Aead.new.out ≡ buffer_after c.args.out.now r) (λ own seen is. e.buffer own is) h);
      stream = λ operation h. rw c.in-Aead.is (step_drawn Aeads c.args.self.now operation c.args.alive step (λ n. c.turn-in-Aead.new.stream ≡ drawn_from c.args.stream.now n) (λ own is. e.stream own is) h);
      lease = refl;
      few = e.few;
    }

pub returns-in-Derivation : goal.returns-in-Derivation
returns-in-Derivation c =
    let s = c.args.self.now.states in
    let e = c.turn-in-Derivation.ensures in
    let step : DerivationWork → After DerivationWork = λ w. derivation_step w (model_derivation_step c.in-Derivation.step (length c.args.out.now)) in record {
      state = λ operation h. rw c.in-Derivation.is (step_is Derivations c.args.self.now (record c.args.self.now { states = record s { derivation = c.turn-in-Derivation.new.state } }) operation c.args.alive step refl (keeps_put Derivations s (c.turn-in-Derivation.new.state, s.alg)) (record { state = λ own seen is. steps_with s.alg.0 c.args.alive s.derivation c.turn-in-Derivation.new.state (model_derivation_step c.in-Derivation.step (length c.args.out.now)) e.state own is; key = step_key (model_derivation_step c.in-Derivation.step (length c.args.out.now)) }) h);
      reply = λ operation h. rw c.in-Derivation.is (step_reply Derivations c.args.self.now operation c.args.alive step (AnswersReply c.turn-in-Derivation.result) (λ own seen is. e.reply own is.state) h);
      buffer = λ operation h. rw c.in-Derivation.is (step_reply Derivations c.args.self.now operation c.args.alive step (λ r. c.turn-in-Derivation.new.out ≡ buffer_after c.args.out.now r) (λ own seen is. e.buffer own is.state) h);
      stream = λ operation h. rw c.in-Derivation.is (step_drawn Derivations c.args.self.now operation c.args.alive step (λ n. c.turn-in-Derivation.new.stream ≡ drawn_from c.args.stream.now n) (λ own is. e.stream own is.state) h);
      lease = refl;
      few = e.few;
    }
