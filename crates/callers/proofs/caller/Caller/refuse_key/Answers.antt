use Rattle.callers.proofs.Common.{AnswersReply, Done, Err, NoFault, Ok, RefusesKeyAt, Reply, ap, arith, buffer_after, drawn_from, draws_none, get_or, key_refused, model_request, operation_at, plain_reply, refl, subst, sym, world, ◌-◌, ◌∙◌}
use Rattle.callers.proofs.{Beginning.at_handle, Failing.key_refused_plainly, Failing.told_plainly, Handling.asked_answered, Handling.asked_back, Handling.asked_ready, Handling.spent_back, Handling.still_stand, Inputting.refusal_draws_none, Inputting.untimely, Inputting.untimely_alike}
use Rattle.callers.proofs.caller.Caller.refuse_key.Goals as goal

pub refuse_key-refused-requires : goal.refuse_key-refused-requires
refuse_key-refused-requires g c =
    λ cell operation at is. c.requires.refuses cell operation (at ∙ ap (λ h. get_or h.list.items (c.args.op - 1) cell) c.ask-rank.ensures.same.handles) is

pub give_back-requires-clause-lent : goal.give_back-requires-clause-lent
give_back-requires-clause-lent g c κs within =
    let r = c.requires.ready in let x = c.ask-rank.new.self in let asked = c.ask-rank.ensures in
    asked_back (world c.args.shared.now) c.args.self.now x r asked.ranked asked.same c.refuse_key-refused.new.self x.stream (key_refused c.ask-rank.result.1 (operation_at r.operations c.args.op) c.args.step) (c.refuse_key-refused.ensures.changed r.operations (still_stand asked.same r.stand))

pub returns-in-Ok : goal.returns-in-Ok
returns-in-Ok g c =
    let w = world c.args.shared.now in let old = c.args.self.now in let r = c.requires.ready in let x = c.ask-rank.new.self in let asked = c.ask-rank.ensures in let handles = c.refuse_key-refused.new.self in let alive = c.ask-rank.result.1 in
    let operation = operation_at r.operations c.args.op in let after = key_refused alive operation c.args.step in let done = c.refuse_key-refused.ensures in let stand = still_stand asked.same r.stand in let changed = done.changed r.operations stand in
    let new = c.give_back.new.self in let back = c.give_back.ensures.back in let reply = ap plain_reply (sym c.in-Ok.is) ∙ done.reply r.operations stand in
    let asks = ap (λ call. model_request call c.args.room) c.requires.call in let refuses = at_handle (λ o. RefusesKeyAt o c.args.step) old.handles.list.items r.operations c.args.op r.stand done.first done.last c.requires.refuses in record {
      ready = asked_ready w old x r asked.ranked asked.same handles x.stream after changed new back done.first done.last asks (λ o. key_refused alive o c.args.step) refl (untimely_alike alive c.args.step) (λ service. untimely service old.number c.args.op c.args.step c.args.key.0 refuses) c.give_back.ensures.at c.give_back.ensures.legal
          (asked.same.stream ∙ (draws_none old.stream ∙ ap (drawn_from old.stream) (sym (refusal_draws_none alive operation c.args.step)))) (let p = ap (λ x. x.place) asked.same.stream in omega arith);
      answered = λ buffer. asked_answered w old x r asked.ranked asked.same handles x.stream after changed new back done.first done.last asks (λ o. key_refused alive o c.args.step) refl (untimely_alike alive c.args.step) (λ service. untimely service old.number c.args.op c.args.step c.args.key.0 refuses) (Ok Done) buffer buffer (λ start is. refl) (sym reply) (ap (buffer_after buffer) reply);
      spent = spent_back (record x { handles = handles }) new c.refuse_key-refused.result.1 back ∙ asked.same.spent;
    }

pub returns-in-Err : goal.returns-in-Err
returns-in-Err g c =
    let w = world c.args.shared.now in let old = c.args.self.now in let r = c.requires.ready in let x = c.ask-rank.new.self in let asked = c.ask-rank.ensures in let handles = c.refuse_key-refused.new.self in let alive = c.ask-rank.result.1 in
    let operation = operation_at r.operations c.args.op in let after = key_refused alive operation c.args.step in let done = c.refuse_key-refused.ensures in let stand = still_stand asked.same r.stand in let changed = done.changed r.operations stand in
    let new = c.give_back.new.self in let back = c.give_back.ensures.back in let why = c.in-Err.status in let reply = ap plain_reply (sym c.in-Err.is) ∙ done.reply r.operations stand in
    let asks = ap (λ call. model_request call c.args.room) c.requires.call in let refuses = at_handle (λ o. RefusesKeyAt o c.args.step) old.handles.list.items r.operations c.args.op r.stand done.first done.last c.requires.refuses in record {
      ready = asked_ready w old x r asked.ranked asked.same handles x.stream after changed new back done.first done.last asks (λ o. key_refused alive o c.args.step) refl (untimely_alike alive c.args.step) (λ service. untimely service old.number c.args.op c.args.step c.args.key.0 refuses) c.give_back.ensures.at c.give_back.ensures.legal
          (asked.same.stream ∙ (draws_none old.stream ∙ ap (drawn_from old.stream) (sym (refusal_draws_none alive operation c.args.step)))) (let p = ap (λ x. x.place) asked.same.stream in omega arith);
      answered = λ buffer. asked_answered w old x r asked.ranked asked.same handles x.stream after changed new back done.first done.last asks (λ o. key_refused alive o c.args.step) refl (untimely_alike alive c.args.step) (λ service. untimely service old.number c.args.op c.args.step c.args.key.0 refuses) (Err why) buffer buffer
          (λ start is. told_plainly why (subst (λ (reply : Reply). NoFault reply.status) (sym reply) (key_refused_plainly alive operation c.args.step))) (subst (AnswersReply (Err why)) reply (refl, refl)) (ap (buffer_after buffer) reply);
      spent = spent_back (record x { handles = handles }) new c.refuse_key-refused.result.1 back ∙ asked.same.spent;
    }
