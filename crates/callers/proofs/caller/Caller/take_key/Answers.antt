use Rattle.callers.proofs.Common.{DecidesAfter, IsClear, IsLent, IsRanked, IsRefused, Plain, TakesKeyAt, ap, false≢true, is_some, lease_pair, mark_of, model_request, refl, sym, use_refusal, world, ◌∙◌, ◌∷◌}
use Rattle.callers.proofs.{Beginning.at_handle, Inputting.failed_answered, Inputting.failed_ready, Inputting.given_answered, Inputting.given_ready, Inputting.reads_secret, Looking.has_room_for_lease, Looking.has_spare, Looking.popped, Looking.put_back, Storing.if_err, Storing.if_ok}
use Rattle.callers.proofs.caller.Caller.take_key.Goals as goal

pub unreachable-requires : goal.unreachable-requires
unreachable-requires g c =
    false≢true (ap is_some (sym c.in_default.is) ∙ c.pop.ensures.variant.1 (has_spare (world c.args.shared.now) 4 c.args.self.now c.requires.ready))

pub look-rank-requires-clause-space : goal.look-rank-requires-clause-space
look-rank-requires-clause-space g c κs within = has_room_for_lease (world c.args.shared.now) 4 c.args.self.now c.requires.ready

pub look-rank-requires-clause-reads : goal.look-rank-requires-clause-reads
look-rank-requires-clause-reads g c κs within =
    let r = c.requires.ready in let first = c.requires.first in let last = c.requires.last in
    reads_secret (world c.args.shared.now) c.args.self.now r (model_request c.args.call.now c.args.room) c.args.op c.args.step c.args.key.0 c.args.wanted first last (ap (λ x. model_request x c.args.room) c.requires.call)
    (at_handle (λ o. TakesKeyAt o c.args.step c.args.wanted) c.args.self.now.handles.list.items r.operations c.args.op r.stand first last (λ cell operation at is. (c.requires.takes cell operation at is).0))

pub input_key-requires-clause-takes : goal.input_key-requires-clause-takes
input_key-requires-clause-takes g c = λ cell operation at is. let takes = (c.requires.takes cell operation at is).0 in (takes.w, takes.derives, takes.due)

pub returns-in-Ok : goal.returns-in-Ok
returns-in-Ok g c =
    let w = world c.args.shared.now in let old = c.args.self.now in let r = c.requires.ready in let request = model_request c.args.call.now c.args.room in let asks = ap (λ x. model_request x c.args.room) c.requires.call in let first = c.requires.first in let last = c.requires.last in
    let takes = at_handle (λ o. TakesKeyAt o c.args.step c.args.wanted) old.handles.list.items r.operations c.args.op r.stand first last (λ cell operation at is. (c.requires.takes cell operation at is).0) in let lease = c.in-Ok.lease in
    let ranked = if_ok (λ lease. IsRanked old.pass.me.0 c.look-rank.new.pass.me.0 request Plain c.look-rank.result.0 (lease_pair lease ∷ old.pass.me.0.holding) (DecidesAfter w (IsLent (use_refusal c.args.wanted) c.args.key.0 lease))) c.look-rank.result.1 c.in-Ok.is c.look-rank.ensures.lent in
    let new = record old { pass = c.look-rank.new.pass; spares = c.pop.new.self; handles = c.input_key.new.self } in record {
      ready = given_ready w old new r ranked.after.entered first last c.args.step c.args.key.0 c.args.wanted asks takes refl lease ranked.after.decided (c.input_key.ensures.kept r.operations takes.w (record { id = c.args.key.0; number = lease.creation }) r.stand takes.derives refl) refl refl refl refl
          (popped old.spares c.pop.new.self c.in-Some.is c.pop.ensures.items c.pop.ensures.capacity r.clear) c.look-rank.ensures.at c.look-rank.ensures.legal;
      answered = given_answered w old new r ranked.after.entered first last c.args.step c.args.key.0 c.args.wanted asks takes refl lease ranked.after.decided;
      spent = refl;
    }

pub returns-in-Err : goal.returns-in-Err
returns-in-Err g c =
    let w = world c.args.shared.now in let old = c.args.self.now in let r = c.requires.ready in let request = model_request c.args.call.now c.args.room in let asks = ap (λ x. model_request x c.args.room) c.requires.call in let first = c.requires.first in let last = c.requires.last in
    let takes = at_handle (λ o. TakesKeyAt o c.args.step c.args.wanted) old.handles.list.items r.operations c.args.op r.stand first last (λ cell operation at is. (c.requires.takes cell operation at is).0) in let why = c.in-Err.status in
    let ranked = if_err (λ refused. IsRanked old.pass.me.0 c.look-rank.new.pass.me.0 request (mark_of refused.0) c.look-rank.result.0 old.pass.me.0.holding (DecidesAfter w (IsRefused (use_refusal c.args.wanted) c.args.key.0 refused.0))) c.look-rank.result.1 c.in-Err.is c.look-rank.ensures.refused in
    let new = record old { pass = c.look-rank.new.pass; spares = c.push_reserved.new.self; handles = c.fail_derivation.new.self } in record {
      ready = failed_ready w old new r ranked.after.entered first last c.args.step c.args.key.0 c.args.wanted asks takes why refl ranked.after.decided (c.fail_derivation.ensures.changed r.operations takes.w r.stand takes.derives) refl refl refl refl
          (put_back old.spares c.pop.new.self new.spares (popped old.spares c.pop.new.self c.in-Some.is c.pop.ensures.items c.pop.ensures.capacity r.clear) (if_err (λ refused. IsClear refused.1) c.look-rank.result.1 c.in-Err.is c.look-rank.ensures.spare) c.push_reserved.ensures.items c.push_reserved.ensures.capacity) c.look-rank.ensures.at c.look-rank.ensures.legal;
      answered = failed_answered w old new r ranked.after.entered first last c.args.step c.args.key.0 c.args.wanted asks takes why refl ranked.after.decided;
      spent = refl;
    }
