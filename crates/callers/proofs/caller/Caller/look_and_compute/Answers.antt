use Rattle.callers.proofs.{Common.DecidesAfter, Common.IsClear, Common.IsLent, Common.IsRanked, Common.IsRefused, Common.Plain, Common.ap, Common.false≢true, Common.is_some, Common.lease_pair, Common.length, Common.mark_of, Common.may_change_keys, Common.model_request, Common.refl, Common.sym, Common.use_refusal, Common.world, Common.◌∙◌, Common.◌∷◌, Supposed.decides_as, WithKeys.quiet_call}
use Rattle.callers.proofs.{Computing.asked_with, Computing.lent_answered, Computing.lent_ready, Computing.refused_answered, Computing.refused_ready, Looking.has_spare, Looking.popped, Looking.put_back, Storing.if_err, Storing.if_ok}
use Rattle.callers.proofs.caller.Caller.look_and_compute.Goals as goal

pub unreachable-requires : goal.unreachable-requires
unreachable-requires g c =
    false≢true (ap is_some (sym c.in_default.is) ∙ c.pop.ensures.variant.1 (has_spare (world c.args.shared.now) 4 c.args.self.now c.requires.ready))

pub returns-in-Ok : goal.returns-in-Ok
returns-in-Ok g c =
    let w = world c.args.shared.now in let old = c.args.self.now in let r = c.requires.ready in let shown = c.args.out.now in let room = length shown in let request = model_request c.args.call.now room in let asked = c.args.asked.now.call in let key = c.key.result.0 in let asks = asked_with c.args.call.now c.args.asked.now c.key.result room c.requires.call c.key.ensures in
    let usage = c.wanted-usage.result in let lease = c.in-Ok.lease in
    let ranked = if_ok (λ lease. IsRanked old.pass.me.0 c.look-rank.new.pass.me.0 request Plain c.look-rank.result.0 (lease_pair lease ∷ old.pass.me.0.holding) (DecidesAfter w (IsLent (use_refusal usage) key lease))) c.look-rank.result.1 c.in-Ok.is c.look-rank.ensures.lent in
    let looked = record old { pass = c.look-rank.new.pass; spares = c.pop.new.self } in let quiet = ap may_change_keys (ranked.after.entered.call_is ∙ asks) ∙ quiet_call asked key room in let given = c.compute_with.ensures in record {
      ready = lent_ready w old r asked key room usage c.wanted-usage.ensures request asks c.look-rank.result.0 ranked.before ranked.after.entry quiet
          looked _ c.compute_with.new.self lease ranked.after.entered (decides_as w ranked.before ranked.after.entry ranked.after.decided (λ m lent. (lent, λ e. absurd (false≢true (sym c.requires.local ∙ e))))) refl given.back refl refl refl refl (popped old.spares c.pop.new.self c.in-Some.is c.pop.ensures.items c.pop.ensures.capacity r.clear) given.at given.legal;
      answered = lent_answered w old r asked key room usage c.wanted-usage.ensures request asks c.look-rank.result.0 ranked.before ranked.after.entry quiet
          looked _ c.compute_with.new.self lease ranked.after.entered (decides_as w ranked.before ranked.after.entry ranked.after.decided (λ m lent. (lent, λ e. absurd (false≢true (sym c.requires.local ∙ e))))) refl given.back c.compute_with.result shown c.compute_with.new.out given.fits;
      spent = given.back.spent;
      handles = given.back.handles;
    }

pub returns-in-Err : goal.returns-in-Err
returns-in-Err g c =
    let w = world c.args.shared.now in let old = c.args.self.now in let r = c.requires.ready in let shown = c.args.out.now in let room = length shown in let request = model_request c.args.call.now room in let asked = c.args.asked.now.call in let key = c.key.result.0 in let asks = asked_with c.args.call.now c.args.asked.now c.key.result room c.requires.call c.key.ensures in
    let usage = c.wanted-usage.result in let why = c.in-Err.status in
    let ranked = if_err (λ refused. IsRanked old.pass.me.0 c.look-rank.new.pass.me.0 request (mark_of refused.0) c.look-rank.result.0 old.pass.me.0.holding (DecidesAfter w (IsRefused (use_refusal usage) key refused.0))) c.look-rank.result.1 c.in-Err.is c.look-rank.ensures.refused in
    let new = record old { pass = c.look-rank.new.pass; spares = c.push_reserved.new.self } in let quiet = ap may_change_keys (ranked.after.entered.call_is ∙ asks) ∙ quiet_call asked key room in record {
      ready = refused_ready w old r asked key room usage c.wanted-usage.ensures request asks c.look-rank.result.0 ranked.before ranked.after.entry quiet
          new why ranked.after.entered (decides_as w ranked.before ranked.after.entry ranked.after.decided (λ m row. (row, λ e. absurd (false≢true (sym c.requires.local ∙ e))))) refl refl refl refl (put_back old.spares c.pop.new.self new.spares (popped old.spares c.pop.new.self c.in-Some.is c.pop.ensures.items c.pop.ensures.capacity r.clear) (if_err (λ refused. IsClear refused.1) c.look-rank.result.1 c.in-Err.is c.look-rank.ensures.spare) c.push_reserved.ensures.items c.push_reserved.ensures.capacity)
          c.look-rank.ensures.at c.look-rank.ensures.legal;
      answered = refused_answered w old r asked key room usage c.wanted-usage.ensures request asks c.look-rank.result.0 ranked.before ranked.after.entry quiet
          new why ranked.after.entered (decides_as w ranked.before ranked.after.entry ranked.after.decided (λ m row. (row, λ e. absurd (false≢true (sym c.requires.local ∙ e))))) shown shown refl;
      spent = refl;
      handles = refl;
    }
