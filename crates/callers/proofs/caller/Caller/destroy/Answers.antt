use Rattle.callers.proofs.Common.{DecidesBefore, Destroy, Done, Err, IsRanked, IsUndestroyed, Ok, SameButPass, ap, failure_told, mark_undestroyed, model_request, refl, world, ◌∙◌}
use Rattle.callers.proofs.{Failing.undestroyed_tells, KeyReplies.destroyed_gives, KeyReplies.destroy_draws, KeyReplies.undestroyed_gives, Marked.undestroyed_marked, Storing.if_err, Storing.on_ok, Storing.stored, Supposed.by_before}
use Rattle.callers.proofs.caller.Caller.destroy.Goals as goal

pub returns-in-Ok : goal.returns-in-Ok
returns-in-Ok g c =
    let w = world c.args.shared.now in let old = c.args.self.now in let new = record old { pass = c.destroy-rank.new.pass } in let key = c.args.key.0 in
    let ranked = on_ok c.destroy-rank.result.1 c.in-Ok.is c.destroy-rank.ensures.destroyed in
    let same : SameButPass old new = record { number = refl; spent = refl; stream = refl; spares = refl; handles = refl } in
    let both = stored w old new c.requires.ready (Destroy key) (ap (λ x. model_request x c.args.room) c.requires.call) ranked same (λ store caller random. destroy_draws store key) c.destroy-rank.ensures.at c.destroy-rank.ensures.legal (by_before w ranked.after.decided) (Ok Done) (λ start is. refl) (λ service p. tt)
    (λ service none. destroyed_gives service old.number key none) in
    record { ready = both.0; answered = both.1; same = same }

pub returns-in-Err : goal.returns-in-Err
returns-in-Err g c =
    let w = world c.args.shared.now in let old = c.args.self.now in let new = record old { pass = c.destroy-rank.new.pass } in let key = c.args.key.0 in let why = c.in-Err.failure in
    let ranked = if_err (λ why. IsRanked old.pass.me.0 new.pass.me.0 (model_request c.args.call.now c.args.room) (mark_undestroyed why) c.destroy-rank.result.0 old.pass.me.0.holding (DecidesBefore w (IsUndestroyed key why))) c.destroy-rank.result.1 c.in-Err.is c.destroy-rank.ensures.failed in
    let same : SameButPass old new = record { number = refl; spent = refl; stream = refl; spares = refl; handles = refl } in
    let both = stored w old new c.requires.ready (Destroy key) (ap (λ x. model_request x c.args.room) c.requires.call) ranked same (λ store caller random. destroy_draws store key) c.destroy-rank.ensures.at c.destroy-rank.ensures.legal (by_before w ranked.after.decided) (Err c.status.result) (λ start is. ap failure_told c.status.ensures ∙ undestroyed_tells why) (λ service is. undestroyed_marked service old.number key why is)
    (λ service is. rw c.status.ensures (undestroyed_gives service old.number key why is)) in
    record { ready = both.0; answered = both.1; same = same }
