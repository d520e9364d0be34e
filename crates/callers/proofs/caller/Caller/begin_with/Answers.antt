use Rattle.callers.proofs.Common.{All-pop, DecidesAfter, IfSome, Inactive, IsClear, IsLent, IsRanked, IsRefused, Plain, ap, arith, false≢true, is_some, lease_pair, mark_of, model_request, refl, subst, sym, use_refusal, used_for, world, ◌+◌, ◌∙◌, ◌∷◌, ◌≡◌}
use Rattle.callers.proofs.{Beginning.at_handle, Beginning.lent_answered, Beginning.lent_ready, Beginning.reads_key, Beginning.refuses, Beginning.stayed_answered, Beginning.stayed_ready, Failing.refused_tells, Failing.use_plainly, Looking.has_room_for_lease, Looking.has_spare, Looking.popped, Looking.put_back, Storing.if_err, Storing.if_ok}
use Rattle.callers.proofs.caller.Caller.begin_with.Goals as goal

pub unreachable-requires : goal.unreachable-requires
unreachable-requires g c =
    false≢true (ap is_some (sym c.in_default.is) ∙ c.pop.ensures.variant.1 (has_spare (world c.args.shared.now) 4 c.args.self.now c.requires.ready))

pub look-rank-requires-clause-reads : goal.look-rank-requires-clause-reads
look-rank-requires-clause-reads g c κs within =
    let r = c.requires.ready in
    reads_key (world c.args.shared.now) c.args.self.now r (model_request c.args.call.now c.args.room) c.args.op c.args.setup c.requires.first c.requires.last (ap (λ x. model_request x c.args.room) c.requires.call)
    (at_handle (λ o. o ≡ Inactive) c.args.self.now.handles.list.items r.operations c.args.op r.stand c.requires.first c.requires.last c.requires.free)

pub look-rank-requires-clause-space : goal.look-rank-requires-clause-space
look-rank-requires-clause-space g c κs within = has_room_for_lease (world c.args.shared.now) 4 c.args.self.now c.requires.ready

pub look-rank-requires-clause-spare : goal.look-rank-requires-clause-spare
look-rank-requires-clause-spare g c κs within =
    subst (λ o. IfSome o IsClear) c.in-Some.is (All-pop IsClear c.args.self.now.spares.items c.pop.new.self.items c.pop.result c.pop.ensures.items c.requires.ready.clear).1

pub returns-in-Ok : goal.returns-in-Ok
returns-in-Ok g c =
    let w = world c.args.shared.now in let old = c.args.self.now in let r = c.requires.ready in let request = model_request c.args.call.now c.args.room in let asks = ap (λ x. model_request x c.args.room) c.requires.call in
    let first = c.requires.first in let last = c.requires.last in let free = at_handle (λ o. o ≡ Inactive) old.handles.list.items r.operations c.args.op r.stand first last c.requires.free in
    let usage = c.of_purpose-usage.result in let uses = c.of_purpose-usage.ensures ∙ ap (used_for c.args.setup.purpose) c.of-alg.ensures in let lease = c.in-Ok.lease in
    let looked = if_ok (λ lease. IsRanked old.pass.me.0 c.look-rank.new.pass.me.0 request Plain c.look-rank.result.0 (lease_pair lease ∷ old.pass.me.0.holding) (DecidesAfter w (IsLent (use_refusal usage) c.args.setup.key.0 lease))) c.look-rank.result.1 c.in-Ok.is c.look-rank.ensures.lent in
    let new = record old { pass = c.look-rank.new.pass; spares = c.pop.new.self; handles = c.begin_with.new.self; spent = old.spent + 1 } in record {
      ready = lent_ready w old new r looked.after.entered first last c.args.setup usage asks uses free lease refl looked.after.decided (rw c.of-alg.ensures at (c.begin_with.ensures.kept r.operations (record { id = c.args.setup.key.0; number = lease.creation }) r.stand refl)) refl refl refl refl
          (popped old.spares c.pop.new.self c.in-Some.is c.pop.ensures.items c.pop.ensures.capacity r.clear) c.requires.worn c.look-rank.ensures.at c.look-rank.ensures.legal;
      answered = lent_answered w old new r looked.after.entered first last c.args.setup usage asks uses free lease refl looked.after.decided;
      spent = refl;
    }

pub returns-in-Err : goal.returns-in-Err
returns-in-Err g c =
    let w = world c.args.shared.now in let old = c.args.self.now in let r = c.requires.ready in let request = model_request c.args.call.now c.args.room in let asks = ap (λ x. model_request x c.args.room) c.requires.call in
    let first = c.requires.first in let last = c.requires.last in let free = at_handle (λ o. o ≡ Inactive) old.handles.list.items r.operations c.args.op r.stand first last c.requires.free in
    let usage = c.of_purpose-usage.result in let uses = c.of_purpose-usage.ensures ∙ ap (used_for c.args.setup.purpose) c.of-alg.ensures in let why = c.in-Err.status in
    let looked = if_err (λ refused. IsRanked old.pass.me.0 c.look-rank.new.pass.me.0 request (mark_of refused.0) c.look-rank.result.0 old.pass.me.0.holding (DecidesAfter w (IsRefused (use_refusal usage) c.args.setup.key.0 refused.0))) c.look-rank.result.1 c.in-Err.is c.look-rank.ensures.refused in
    let new = record old { pass = c.look-rank.new.pass; spares = c.push_reserved.new.self } in let applies = refuses w old new r looked.after.entered first last c.args.setup usage asks uses free why refl looked.after.decided in record {
      ready = stayed_ready w old new r looked.after.entered first last Inactive free why applies refl refl refl refl refl
          (put_back old.spares c.pop.new.self new.spares (popped old.spares c.pop.new.self c.in-Some.is c.pop.ensures.items c.pop.ensures.capacity r.clear) (if_err (λ refused. IsClear refused.1) c.look-rank.result.1 c.in-Err.is c.look-rank.ensures.spare) c.push_reserved.ensures.items c.push_reserved.ensures.capacity)
          c.requires.worn c.look-rank.ensures.at c.look-rank.ensures.legal;
      answered = stayed_answered w old new r looked.after.entered first last Inactive free why applies (λ start is. let d = looked.after.decided start is in refused_tells (use_refusal usage) (use_plainly usage) c.args.setup.key.0 why d.model d.holds);
      spent = omega arith;
    }
