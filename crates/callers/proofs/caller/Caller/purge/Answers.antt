use Rattle.callers.proofs.Common.{DecidesAfter, Done, Err, InvalidHandle, IsRanked, None, Ok, Plain, Purge, SameButPass, Some, ap, failure_told, may_change_keys, model_request, refl, there_rows, world, ◌∙◌, ◌≡◌}
use Rattle.std.specs.FinMap as map
use Rattle.callers.proofs.{KeyReplies.purged_gives, KeyReplies.unpurged_gives, Storing.if_err, Storing.on_ok, Storing.stored, Supposed.by_after, Supposed.quiet_leaves}
use Rattle.callers.proofs.caller.Caller.purge.Goals as goal

pub returns-in-Ok : goal.returns-in-Ok
returns-in-Ok g c =
    let w = world c.args.shared.now in let old = c.args.self.now in let new = record old { pass = c.purge-rank.new.pass } in let key = c.args.key.0 in let asks = ap (λ x. model_request x c.args.room) c.requires.call in
    let ranked = on_ok c.purge-rank.result.1 c.in-Ok.is c.purge-rank.ensures.there in
    let same : SameButPass old new = record { number = refl; spent = refl; stream = refl; spares = refl; handles = refl } in
    let both = stored w old new c.requires.ready (Purge key) asks ranked same (λ store caller random. refl) c.purge-rank.ensures.at c.purge-rank.ensures.legal (by_after w (λ m. there_rows (map.get m.keys key) ≡ None) (quiet_leaves w ranked.before ranked.after.entry (ap may_change_keys (ranked.after.entered.call_is ∙ asks))) ranked.after.decided) (Ok Done) (λ start is. refl) (λ service p. tt)
    (λ service there. purged_gives service old.number key there) in
    record { ready = both.0; answered = both.1; same = same }

pub returns-in-Err : goal.returns-in-Err
returns-in-Err g c =
    let w = world c.args.shared.now in let old = c.args.self.now in let new = record old { pass = c.purge-rank.new.pass } in let key = c.args.key.0 in let asks = ap (λ x. model_request x c.args.room) c.requires.call in let why = c.in-Err.status in
    let missing = if_err (λ status. (status ≡ InvalidHandle) × IsRanked old.pass.me.0 new.pass.me.0 (model_request c.args.call.now c.args.room) Plain c.purge-rank.result.0 old.pass.me.0.holding (DecidesAfter w (λ m. there_rows (map.get m.keys key) ≡ Some status))) c.purge-rank.result.1 c.in-Err.is c.purge-rank.ensures.missing in
    let ranked = missing.1 in let same : SameButPass old new = record { number = refl; spent = refl; stream = refl; spares = refl; handles = refl } in
    let both = stored w old new c.requires.ready (Purge key) asks ranked same (λ store caller random. refl) c.purge-rank.ensures.at c.purge-rank.ensures.legal (by_after w (λ m. there_rows (map.get m.keys key) ≡ Some why) (quiet_leaves w ranked.before ranked.after.entry (ap may_change_keys (ranked.after.entered.call_is ∙ asks))) ranked.after.decided) (Err why) (λ start is. ap failure_told missing.0) (λ service p. tt)
    (λ service row. unpurged_gives service old.number key why missing.0 row) in
    record { ready = both.0; answered = both.1; same = same }
