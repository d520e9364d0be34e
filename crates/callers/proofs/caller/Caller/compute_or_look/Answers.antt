use Rattle.callers.proofs.Common.{IsLooked, IsReplied, ap, bytes_of, computed_by, drawn_from, false≢true, is_some, length, may_change_keys, model_request, next_bytes, refl, subst, sym, world, ◌∙◌}
use Rattle.callers.proofs.{Computing.asked_with, Computing.computed_answered, Computing.computed_ready, Computing.lent_answered, Computing.lent_ready, Computing.refused_answered, Computing.refused_ready, Looking.has_spare, Looking.popped, Looking.put_back, Supposed.decides_as, WithKeys.quiet_call}
use Rattle.callers.proofs.caller.Caller.compute_or_look.Goals as goal

pub unreachable-requires : goal.unreachable-requires
unreachable-requires g c =
    false≢true (ap is_some (sym c.in_default.is) ∙ c.pop.ensures.variant.1 (has_spare (world c.args.shared.now) 4 c.args.self.now c.requires.ready))

pub returns-in-Computed : goal.returns-in-Computed
returns-in-Computed g c =
    let w = world c.args.shared.now in let old = c.args.self.now in let r = c.requires.ready in let shown = c.args.out.now in let room = length shown in let request = model_request c.args.call.now room in let asked = c.args.asked.now.call in let key = c.key.result.0 in let asks = asked_with c.args.call.now c.args.asked.now c.key.result room c.requires.call c.key.ensures in
    let usage = c.wanted-usage.result in let given = c.look_or_compute-rank.new.out in let rank = c.look_or_compute-rank.result.0 in let element = c.args.element.now in
    let looked = subst (IsLooked w old.pass.me.0 c.look_or_compute-rank.new.pass.me.0 request rank key usage element shown given) c.in-Computed.is c.look_or_compute-rank.ensures.looked in let ranked = looked.1 in
    let new = record old { pass = c.look_or_compute-rank.new.pass; spares = c.push_reserved.new.self; stream = c.draw_vector.new.stream } in let quiet = ap may_change_keys (ranked.after.entered.call_is ∙ asks) ∙ quiet_call asked key room in record {
      ready = computed_ready w old new r asked element key shown given c.in-Computed.computed request asks (c.requires.model key room) rank ranked.before ranked.after.entry quiet ranked.after.entered ranked.after.decided c.requires.draws refl refl refl c.draw_vector.ensures
          (put_back old.spares c.pop.new.self new.spares (popped old.spares c.pop.new.self c.in-Some.is c.pop.ensures.items c.pop.ensures.capacity r.clear) looked.0 c.push_reserved.ensures.items c.push_reserved.ensures.capacity) c.look_or_compute-rank.ensures.at c.look_or_compute-rank.ensures.legal;
      answered = computed_answered w old new r asked element key shown given c.in-Computed.computed request asks (c.requires.model key room) rank ranked.before ranked.after.entry quiet ranked.after.entered ranked.after.decided
          c.requires.vector c.look_or_compute-rank.auto.out c.computed_output.result (λ reply. c.computed_output.ensures.reply element reply c.requires.element) c.computed_output.ensures.failure;
      spent = refl;
      handles = refl;
    }

pub returns-in-Lent : goal.returns-in-Lent
returns-in-Lent g c =
    let w = world c.args.shared.now in let old = c.args.self.now in let r = c.requires.ready in let shown = c.args.out.now in let room = length shown in let request = model_request c.args.call.now room in let asked = c.args.asked.now.call in let key = c.key.result.0 in let asks = asked_with c.args.call.now c.args.asked.now c.key.result room c.requires.call c.key.ensures in
    let usage = c.wanted-usage.result in let given = c.look_or_compute-rank.new.out in let rank = c.look_or_compute-rank.result.0 in let lease = c.in-Lent.lease in
    let looked = subst (IsLooked w old.pass.me.0 c.look_or_compute-rank.new.pass.me.0 request rank key usage c.args.element.now shown given) c.in-Lent.is c.look_or_compute-rank.ensures.looked in let ranked = looked.2 in
    let mid = record old { pass = c.look_or_compute-rank.new.pass; spares = c.pop.new.self } in let quiet = ap may_change_keys (ranked.after.entered.call_is ∙ asks) ∙ quiet_call asked key room in let back = c.compute_with.ensures.back in record {
      ready = lent_ready w old r asked key room usage c.wanted-usage.ensures request asks rank ranked.before ranked.after.entry quiet
          mid _ c.compute_with.new.self lease ranked.after.entered (decides_as w ranked.before ranked.after.entry ranked.after.decided (λ m lent. (lent.0, λ e. lent.1))) refl back refl refl refl (ap (λ n. drawn_from old.stream (computed_by asked (bytes_of lease.buffer) (next_bytes old.stream) (length n)).drawn) looked.0)
          (popped old.spares c.pop.new.self c.in-Some.is c.pop.ensures.items c.pop.ensures.capacity r.clear) c.compute_with.ensures.at c.compute_with.ensures.legal;
      answered = lent_answered w old r asked key room usage c.wanted-usage.ensures request asks rank ranked.before ranked.after.entry quiet
          mid _ c.compute_with.new.self lease ranked.after.entered (decides_as w ranked.before ranked.after.entry ranked.after.decided (λ m lent. (lent.0, λ e. lent.1))) refl back c.compute_with.result shown c.compute_with.new.out
          (subst (λ n. IsReplied c.compute_with.result n c.compute_with.new.out (computed_by asked (bytes_of lease.buffer) (next_bytes old.stream) (length n)).reply) looked.0 c.compute_with.ensures.fits);
      spent = back.spent;
      handles = back.handles;
    }

pub returns-in-Refused : goal.returns-in-Refused
returns-in-Refused g c =
    let w = world c.args.shared.now in let old = c.args.self.now in let r = c.requires.ready in let shown = c.args.out.now in let room = length shown in let request = model_request c.args.call.now room in let asked = c.args.asked.now.call in let key = c.key.result.0 in let asks = asked_with c.args.call.now c.args.asked.now c.key.result room c.requires.call c.key.ensures in
    let usage = c.wanted-usage.result in let given = c.look_or_compute-rank.new.out in let rank = c.look_or_compute-rank.result.0 in let why = c.in-Refused.status in
    let looked = subst (IsLooked w old.pass.me.0 c.look_or_compute-rank.new.pass.me.0 request rank key usage c.args.element.now shown given) c.in-Refused.is c.look_or_compute-rank.ensures.looked in let ranked = looked.2 in
    let new = record old { pass = c.look_or_compute-rank.new.pass; spares = c.push_reserved-in-Refused.new.self } in let quiet = ap may_change_keys (ranked.after.entered.call_is ∙ asks) ∙ quiet_call asked key room in record {
      ready = refused_ready w old r asked key room usage c.wanted-usage.ensures request asks rank ranked.before ranked.after.entry quiet
          new why ranked.after.entered (decides_as w ranked.before ranked.after.entry ranked.after.decided (λ m row. (row.0, λ e. row.1))) refl refl refl refl (put_back old.spares c.pop.new.self new.spares (popped old.spares c.pop.new.self c.in-Some.is c.pop.ensures.items c.pop.ensures.capacity r.clear) looked.1 c.push_reserved-in-Refused.ensures.items c.push_reserved-in-Refused.ensures.capacity)
          c.look_or_compute-rank.ensures.at c.look_or_compute-rank.ensures.legal;
      answered = refused_answered w old r asked key room usage c.wanted-usage.ensures request asks rank ranked.before ranked.after.entry quiet
          new why ranked.after.entered (decides_as w ranked.before ranked.after.entry ranked.after.decided (λ m row. (row.0, λ e. row.1))) shown given looked.0;
      spent = refl;
      handles = refl;
    }
