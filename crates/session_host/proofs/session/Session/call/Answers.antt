use Rattle.session_host.proofs.{Common.IfSome, Common.IsAnswered, Common.ap, Common.arith, Common.asked, Common.length, Common.length-take-le, Common.reply_of, Common.request_of, Common.subst, Common.take, Common.world, Common.◌∙◌, Common.◌≡◌, Told.IsTold, Told.is_made, Told.same_failure}
use Rattle.service_calls.specs.Meanings.{model_request}
use Rattle.session_host.proofs.session.Session.call.Goals as goal

pub call-call-requires-clause-first : goal.call-call-requires-clause-first
call-call-requires-clause-first g c = let a = c.requires.ready.at.first in let b = c.requires.ready.number in let own = c.requires.own in omega arith

pub call-call-requires-clause-last : goal.call-call-requires-clause-last
call-call-requires-clause-last g c = let a = c.requires.ready.last in let own = c.requires.own in omega arith

pub returns-clause-made : goal.returns-clause-made
returns-clause-made g c =
    let w = world c.args.service.now.shared in let names = c.args.names.now in let session = c.args.line.now.session in
    let v = c.args.self.now.caller.pass.me.0 in let u = c.call-ranked.new.caller.pass.me.0 in let rank = c.unwrap-rank.result in
    let before = take c.room.result c.args.buffer.now in let out = c.call-ranked.new.out in let result = c.call-ranked.result.1 in let answer = c.answer.result in
    let made = model_request c.call-call.result (length before) in let wanted = asked names session (request_of c.args.self.now.given.items c.args.line.now.call) in
    let answered = subst (λ o. IfSome o (λ rank. IsAnswered w v u made rank result before out)) c.unwrap-rank.ensures c.call-ranked.ensures.ranked in
    let same : made ≡ wanted =
    c.call-call.ensures (length before)
    ∙ ap (asked names session) (ap (λ n. model_request c.value.result n) (length-take-le c.room.result c.args.buffer.now (let a = c.requires.room in let b = c.room.ensures.most in omega arith) ∙ c.room.ensures.value)
    ∙ (c.value.ensures ∙ ap (λ ids. request_of ids c.args.line.now.call) c.deref.ensures.value)) in
    let told : IsTold names result answer = record { replies = c.answer.ensures.answer; failure = same_failure result answer c.answer.ensures.status; unwritten = c.answer.ensures.unwritten } in
    (rank, reply_of answer out, is_made w names v u made wanted rank result answer before out answered same told, c.note.ensures.noted)
