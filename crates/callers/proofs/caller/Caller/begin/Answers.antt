use Rattle.callers.proofs.{Common.AnswersReply, Common.Done, Common.Err, Common.Inactive, Common.Ok, Common.ap, Common.arith, Common.buffer_after, Common.model_request, Common.plain_reply, Common.refl, Common.subst, Common.sym, Common.world, Common.◌+◌, Common.◌∙◌, Common.◌≡◌, Beginning.at_handle, Beginning.bare_answered, Beginning.bare_ready}
use Rattle.callers.proofs.caller.Caller.begin.Goals as goal

pub returns-in-Ok : goal.returns-in-Ok
returns-in-Ok g c =
    let w = world c.args.shared.now in let old = c.args.self.now in let r = c.requires.ready in let asks = ap (λ x. model_request x c.args.room) c.requires.call in let i = c.count-rank.ensures.counted.after.entered in let begun = c.begin.ensures in
    let new = record old { pass = c.count-rank.new.pass; handles = c.begin.new.self; spent = old.spent + 1 } in let reply = ap plain_reply (sym c.in-Ok.is) ∙ begun.reply r.operations r.stand in record {
      ready = bare_ready w old new r i begun.first begun.last c.args.setup asks refl (Ok c.in-Ok.field-0) reply (at_handle (λ o. o ≡ Inactive) old.handles.list.items r.operations c.args.op r.stand begun.first begun.last c.requires.free) (begun.changed r.operations r.stand) refl refl refl refl refl
          c.requires.worn c.count-rank.ensures.at c.count-rank.ensures.legal;
      answered = bare_answered w old new r i begun.first begun.last c.args.setup asks refl (Ok Done) (sym reply) (λ buffer. ap (buffer_after buffer) reply);
      spent = refl;
    }

pub returns-in-Err : goal.returns-in-Err
returns-in-Err g c =
    let w = world c.args.shared.now in let old = c.args.self.now in let r = c.requires.ready in let asks = ap (λ x. model_request x c.args.room) c.requires.call in let i = c.count-rank.ensures.counted.after.entered in let begun = c.begin.ensures in
    let new = record old { pass = c.count-rank.new.pass; handles = c.begin.new.self } in let reply = ap plain_reply (sym c.in-Err.is) ∙ begun.reply r.operations r.stand in let same : old.spent ≡ old.spent + 0 = omega arith in record {
      ready = bare_ready w old new r i begun.first begun.last c.args.setup asks refl (Err c.in-Err.status) reply (at_handle (λ o. o ≡ Inactive) old.handles.list.items r.operations c.args.op r.stand begun.first begun.last c.requires.free) (begun.changed r.operations r.stand) refl refl refl refl same
          c.requires.worn c.count-rank.ensures.at c.count-rank.ensures.legal;
      answered = bare_answered w old new r i begun.first begun.last c.args.setup asks refl (Err c.in-Err.status) (subst (AnswersReply (Err c.in-Err.status)) reply (refl, refl)) (λ buffer. ap (buffer_after buffer) reply);
      spent = same;
    }
