use Rattle.callers.proofs.Common.{AnswersReply, OnStore, Outcome, SameButPass, Service, answers_plainly, ap, buffer_after, hashes, length, model_hash_call, model_request, next_random, plain_step, refl, subst, sym, world, ◌∙◌}
use Rattle.callers.proofs.{Failing.answers_plain, Storing.stored_answered, Storing.stored_ready, Storing.undecided}
use Rattle.callers.proofs.caller.Caller.hash.Goals as goal

pub returns : goal.returns
returns g c =
    let w = world c.args.shared.now in let old = c.args.self.now in let new = record old { pass = c.count-rank.new.pass } in let shown = c.args.out.now in let result = c.compute_hash-result.result in
    let call = model_hash_call c.args.asked.now (length shown) in let asks = ap (λ x. model_request x (length shown)) c.requires.call in let ranked = c.count-rank.ensures.counted in
    let is = λ (service : Service). sym (ap (λ (o : Outcome). o.reply) (hashes service.store old.number (next_random service old.number) c.args.asked.now (length shown))) in
    let same : SameButPass old new = record { number = refl; spent = refl; stream = refl; spares = refl; handles = refl } in record {
      ready = stored_ready w old new c.requires.ready call asks ranked same (λ store caller random. ap (λ (o : Outcome). o.drawn) (hashes store caller random c.args.asked.now (length shown))) c.count-rank.ensures.at c.count-rank.ensures.legal;
      answered = stored_answered w old new c.requires.ready call asks ranked (undecided w old new c.requires.ready call asks ranked) result shown c.compute_hash-result.new.out
          (λ start starts. answers_plain result (plain_step start old.number (OnStore call)).reply (subst (AnswersReply result) (is start) c.compute_hash-result.ensures.reply) (answers_plainly start old.number (OnStore call))) (λ service none. tt)
          (λ service none. let there = is service in (subst (AnswersReply result) there c.compute_hash-result.ensures.reply, c.compute_hash-result.ensures.buffer ∙ ap (buffer_after shown) there));
      same = same;
    }
