use Rattle.callers.proofs.Common.{DecidesAfter, Err, GetAttributes, HasAttributes, IsRanked, IsRefused, Ok, OnStore, Plain, SameButPass, ap, counted, mark_of, may_change_keys, model_request, refl, there_rows, world, ◌∙◌}
use Rattle.service_calls.specs.declared.output.Output.TheVariants as output
use Rattle.callers.proofs.{Failing.refused_tells, Failing.there_plainly, KeyReplies.known_gives, KeyReplies.unknown_gives, Marked.read_marked, Storing.if_err, Storing.if_ok, Storing.stored, Supposed.by_after, Supposed.quiet_leaves}
use Rattle.callers.proofs.caller.Caller.attributes.Goals as goal

pub returns-in-Ok : goal.returns-in-Ok
returns-in-Ok g c =
    let w = world c.args.shared.now in let old = c.args.self.now in let new = record old { pass = c.attributes-rank.new.pass } in let key = c.args.key.0 in let asks = ap (λ x. model_request x c.args.room) c.requires.call in let known = c.in-Ok.attributes in
    let ranked = if_ok (λ known. IsRanked old.pass.me.0 new.pass.me.0 (model_request c.args.call.now c.args.room) Plain c.attributes-rank.result.0 old.pass.me.0.holding (DecidesAfter w (HasAttributes key known))) c.attributes-rank.result.1 c.in-Ok.is c.attributes-rank.ensures.known in
    let same : SameButPass old new = record { number = refl; spent = refl; stream = refl; spares = refl; handles = refl } in
    let both = stored w old new c.requires.ready (GetAttributes key) asks ranked same (λ store caller random. refl) c.attributes-rank.ensures.at c.attributes-rank.ensures.legal (by_after w (HasAttributes key known) (quiet_leaves w ranked.before ranked.after.entry (ap may_change_keys (ranked.after.entered.call_is ∙ asks))) ranked.after.decided) (Ok (output.Description known)) (λ start is. refl) (λ service p. tt)
    (λ service has. known_gives service old.number key known has) in
    record { ready = both.0; answered = both.1; same = same }

pub returns-in-Err : goal.returns-in-Err
returns-in-Err g c =
    let w = world c.args.shared.now in let old = c.args.self.now in let new = record old { pass = c.attributes-rank.new.pass } in let key = c.args.key.0 in let asks = ap (λ x. model_request x c.args.room) c.requires.call in let why = c.in-Err.status in
    let ranked = if_err (λ status. IsRanked old.pass.me.0 new.pass.me.0 (model_request c.args.call.now c.args.room) (mark_of status) c.attributes-rank.result.0 old.pass.me.0.holding (DecidesAfter w (IsRefused there_rows key status))) c.attributes-rank.result.1 c.in-Err.is c.attributes-rank.ensures.refused in
    let same : SameButPass old new = record { number = refl; spent = refl; stream = refl; spares = refl; handles = refl } in
    let both = stored w old new c.requires.ready (GetAttributes key) asks ranked same (λ store caller random. refl) c.attributes-rank.ensures.at c.attributes-rank.ensures.legal (by_after w (IsRefused there_rows key why) (quiet_leaves w ranked.before ranked.after.entry (ap may_change_keys (ranked.after.entered.call_is ∙ asks))) ranked.after.decided) (Err why)
    (λ start is. let d = ranked.after.decided start is in refused_tells there_rows there_plainly key why d.model d.holds)
    (λ service row. read_marked service old.number (OnStore (GetAttributes key)) there_rows key why (counted service.store) refl refl row)
    (λ service row. unknown_gives service old.number key why row) in
    record { ready = both.0; answered = both.1; same = same }
