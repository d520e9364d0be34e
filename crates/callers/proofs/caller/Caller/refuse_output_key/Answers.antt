use Rattle.callers.proofs.Common.{AnswersReply, Err, NoFault, None, Reply, ap, arith, buffer_after, derivation_part, derived_key_refused, drawn_from, draws_none, get_or, model_request, operation_at, output_key_refusal, part_of, refl, subst, sym, world, ◌-◌, ◌∙◌, ◌≡◌}
use Rattle.callers.proofs.{Beginning.at_handle, Failing.derived_plainly, Failing.told_plainly, Handling.asked_answered, Handling.asked_back, Handling.asked_ready, Handling.spent_back, Handling.still_stand, Outputting.output_draws_none, Outputting.undue, Outputting.undue_alike, Outputting.undue_leaves}
use Rattle.callers.proofs.caller.Caller.refuse_output_key.Goals as goal

pub refuse_output_key-status-requires-clause-some : goal.refuse_output_key-status-requires-clause-some
refuse_output_key-status-requires-clause-some g c = (c.requires.ready.operations, still_stand c.ask-rank.ensures.same c.requires.ready.stand)

pub refuse_output_key-status-requires-clause-refused : goal.refuse_output_key-status-requires-clause-refused
refuse_output_key-status-requires-clause-refused g c =
    λ cell operation at is. c.requires.refused cell operation (at ∙ ap (λ h. get_or h.list.items (c.args.op - 1) cell) c.ask-rank.ensures.same.handles) is

pub ask-rank-requires-clause-leaves : goal.ask-rank-requires-clause-leaves
ask-rank-requires-clause-leaves g c κs within =
    let w = world c.args.shared.now in
    let r = c.requires.ready in
    undue_leaves w c.args.self.now r (model_request c.args.call.now c.args.room) c.args.op c.args.attributes c.requires.first c.requires.last (ap (λ x. model_request x c.args.room) c.requires.call)
    (at_handle (λ o. output_key_refusal (part_of derivation_part o) c.args.attributes ≡ None → ⊥) c.args.self.now.handles.list.items r.operations c.args.op r.stand c.requires.first c.requires.last c.requires.refused)

pub give_back-requires-clause-lent : goal.give_back-requires-clause-lent
give_back-requires-clause-lent g c κs within =
    let r = c.requires.ready in let x = c.ask-rank.new.self in let asked = c.ask-rank.ensures in
    asked_back (world c.args.shared.now) c.args.self.now x r asked.ranked asked.same c.refuse_output_key-status.new.self x.stream (derived_key_refused c.ask-rank.result.1 (operation_at r.operations c.args.op) c.args.attributes) (c.refuse_output_key-status.ensures.changed r.operations (still_stand asked.same r.stand))

pub returns : goal.returns
returns g c =
    let w = world c.args.shared.now in let old = c.args.self.now in let r = c.requires.ready in let x = c.ask-rank.new.self in let asked = c.ask-rank.ensures in let handles = c.refuse_output_key-status.new.self in let alive = c.ask-rank.result.1 in
    let operation = operation_at r.operations c.args.op in let after = derived_key_refused alive operation c.args.attributes in let done = c.refuse_output_key-status.ensures in let stand = still_stand asked.same r.stand in let changed = done.changed r.operations stand in
    let new = c.give_back.new.self in let back = c.give_back.ensures.back in let first = c.requires.first in let last = c.requires.last in let why = c.refuse_output_key-status.result.0 in let reply = done.reply r.operations stand in
    let refuses = at_handle (λ o. output_key_refusal (part_of derivation_part o) c.args.attributes ≡ None → ⊥) old.handles.list.items r.operations c.args.op r.stand first last c.requires.refused in
    let asks = ap (λ call. model_request call c.args.room) c.requires.call in record {
      ready = asked_ready w old x r asked.ranked asked.same handles x.stream after changed new back first last asks (λ o. derived_key_refused alive o c.args.attributes) refl (undue_alike alive c.args.attributes) (λ service. undue service old.number c.args.op c.args.attributes refuses) c.give_back.ensures.at c.give_back.ensures.legal
          (asked.same.stream ∙ (draws_none old.stream ∙ ap (drawn_from old.stream) (sym (output_draws_none alive operation c.args.attributes)))) (let p = ap (λ x. x.place) asked.same.stream in omega arith);
      answered = λ buffer. asked_answered w old x r asked.ranked asked.same handles x.stream after changed new back first last asks (λ o. derived_key_refused alive o c.args.attributes) refl (undue_alike alive c.args.attributes) (λ service. undue service old.number c.args.op c.args.attributes refuses) (Err why) buffer buffer
          (λ start is. told_plainly why (subst (λ (reply : Reply). NoFault reply.status) (sym reply) (derived_plainly alive operation c.args.attributes))) (subst (AnswersReply (Err why)) reply (refl, refl)) (ap (buffer_after buffer) reply);
      spent = spent_back (record x { handles = handles }) new c.refuse_output_key-status.result.1 back ∙ asked.same.spent;
    }
