use Rattle.callers.proofs.Common.{ap, arith, drawn_from, length, model_request, model_step, next_bytes, operation_at, refl, stepped_by, world, ◌∙◌}
use Rattle.callers.proofs.{Failing.answers_plain, Failing.stepped_plainly, Handling.asked_answered, Handling.asked_back, Handling.asked_ready, Handling.spent_back, Handling.steps, Handling.still_stand, Rekeying.rekeyed_steps}
use Rattle.callers.proofs.caller.Caller.step.Goals as goal

pub give_back-requires-clause-lent : goal.give_back-requires-clause-lent
give_back-requires-clause-lent g c κs within =
    let r = c.requires.ready in let x = c.ask-rank.new.self in let asked = c.ask-rank.ensures in let after = stepped_by c.ask-rank.result.1 (next_bytes x.stream 16) (operation_at r.operations c.args.op) (model_step c.args.step (length c.args.out.now)) in
    asked_back (world c.args.shared.now) c.args.self.now x r asked.ranked asked.same c.step-result.new.self c.step-result.new.stream after (c.step-result.ensures.changed r.operations (still_stand asked.same r.stand))

pub returns : goal.returns
returns g c =
    let w = world c.args.shared.now in let old = c.args.self.now in let r = c.requires.ready in let x = c.ask-rank.new.self in let asked = c.ask-rank.ensures in let result = c.step-result.result.0 in let room = length c.args.out.now in
    let after = stepped_by c.ask-rank.result.1 (next_bytes x.stream 16) (operation_at r.operations c.args.op) (model_step c.args.step room) in let done = c.step-result.ensures in let stand = still_stand asked.same r.stand in
    let new = c.give_back.new.self in let back = c.give_back.ensures.back in let changed = done.changed r.operations stand in
    let asks = ap (λ call. model_request call room) c.requires.call in record {
      ready = asked_ready w old x r asked.ranked asked.same c.step-result.new.self c.step-result.new.stream after changed new back done.first done.last asks (λ o. stepped_by c.ask-rank.result.1 (next_bytes x.stream 16) o (model_step c.args.step room)) refl (λ key o. rekeyed_steps key c.ask-rank.result.1 (next_bytes x.stream 16) o (model_step c.args.step room)) (λ service. steps service old.number c.args.op c.args.step room asked.same.stream) c.give_back.ensures.at c.give_back.ensures.legal
          (done.stream r.operations stand ∙ ap (λ s. drawn_from s after.drawn) asked.same.stream) (let p = ap (λ x. x.place) (done.few.2 ∙ ap (λ x. drawn_from x done.few.0) asked.same.stream) in let q = done.few.1 in omega arith);
      answered = asked_answered w old x r asked.ranked asked.same c.step-result.new.self c.step-result.new.stream after changed new back done.first done.last asks (λ o. stepped_by c.ask-rank.result.1 (next_bytes x.stream 16) o (model_step c.args.step room)) refl (λ key o. rekeyed_steps key c.ask-rank.result.1 (next_bytes x.stream 16) o (model_step c.args.step room)) (λ service. steps service old.number c.args.op c.args.step room asked.same.stream) result c.args.out.now c.step-result.new.out
          (λ start is. answers_plain result after.reply (done.reply r.operations stand) (stepped_plainly start.store c.ask-rank.result.1 (next_bytes x.stream 16) (operation_at r.operations c.args.op) (model_step c.args.step room)))
          (done.reply r.operations stand) (done.buffer r.operations stand);
      spent = spent_back (record x { handles = c.step-result.new.self; stream = c.step-result.new.stream }) new c.step-result.result.1 back ∙ asked.same.spent;
    }
