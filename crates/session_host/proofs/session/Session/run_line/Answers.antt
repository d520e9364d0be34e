use Rattle.session_host.proofs.{Common.IfOk, Common.IsMade, Common.IsNoted, Common.[], Common.ap, Common.asked, Common.inr, Common.request_of, Common.subst, Common.world, Common.◌++◌, Common.◌∙◌, Common.◌∷◌, Told.answered_more, Told.made_more}
use Rattle.session_host.proofs.session.Session.run_line.Goals as goal

pub returns-in-Ok-clause-ran : goal.returns-in-Ok-clause-ran
returns-in-Ok-clause-ran g c lines h =
    let w = world c.args.service.now.shared in let names = c.args.names.now in
    let old = c.args.self.now in let called = c.call.new.self in let line = c.args.line.now in let e = c.call.ensures in
    let rank = e.made.0 in let reply = e.made.1 in
    let noted = subst (λ r. IfOk r (IsNoted old.replies called.replies rank reply)) c.in-Ok.is e.made.3 in
    let made = subst (λ ids. IsMade w names old.caller.pass.me.0 called.caller.pass.me.0 (asked names line.session (request_of ids line.call)) rank reply) c.reserve.ensures.items e.made.2 in
    answered_more w names lines line old (record { caller = called.caller; replies = called.replies; given = c.push_reserved.new.self }) rank reply h e.ready e.spent c.requires.own made noted.line e.session
    (c.push_reserved.ensures.items ∙ (ap (λ l. l ++ c.in-Ok.id ∷ []) (ap (λ r. r.items) e.given ∙ c.reserve.ensures.items) ∙ ap (λ n. old.given.items ++ n ∷ []) noted.id_is))

pub returns-in-Err-clause-ran : goal.returns-in-Err-clause-ran
returns-in-Err-clause-ran g c lines h =
    let w = world c.args.service.now.shared in let names = c.args.names.now in
    let old = c.args.self.now in let called = c.call.new.self in let line = c.args.line.now in let e = c.call.ensures in
    let made = subst (λ ids. IsMade w names old.caller.pass.me.0 called.caller.pass.me.0 (asked names line.session (request_of ids line.call)) e.made.0 e.made.1) c.reserve.ensures.items e.made.2 in
    let was = h.replies.replies.made in
    inr (made_more w names old.caller called.caller (asked names line.session (request_of old.given.items line.call)) e.made.0 e.made.1 was.ready e.ready made lines line was e.spent c.requires.own (ap (λ ids. asked names line.session (request_of ids line.call)) h.given))
