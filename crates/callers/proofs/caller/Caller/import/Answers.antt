use Rattle.callers.proofs.Common.{DecidesBefore, Err, Import, IsCreated, IsMade, IsUnmade, None, Ok, OnStore, Plain, RecordsStated, ap, created_unless, failure_told, length, mark_unmade, model_request, recorded_of, refl, sym, world, ◌∙◌}
use Rattle.service_calls.specs.declared.output.Output.TheVariants as output
use Rattle.callers.proofs.{Failing.stated_plainly, Failing.unmade_tells, Made.made_gives, Made.undrawn, Made.unmade_gives, Marked.unmade_marked, Storing.created_answered, Storing.created_ready, Storing.has_no_filling, Storing.if_err, Storing.if_ok, Supposed.by_before}
use Rattle.callers.proofs.caller.Caller.import.Goals as goal

pub create-rank-requires-clause-space : goal.create-rank-requires-clause-space
create-rank-requires-clause-space g c κs within = has_no_filling (world c.args.shared.now) 4 c.args.self.now c.requires.ready

pub returns-in-Ok : goal.returns-in-Ok
returns-in-Ok g c =
    let w = world c.args.shared.now in let old = c.args.self.now in let new = c.create-rank.new.self in let asks = ap (λ x. model_request x c.args.room) c.requires.call in let a = c.args.attributes in let bytes = c.args.bytes.now in
    let records = RecordsStated None old.number a (length bytes) in let id = c.in-Ok.id in
    let created = if_ok (λ id. IsCreated old.pass.me.0 new.pass.me.0 (model_request c.args.call.now c.args.room) Plain c.create-rank.result.0 (DecidesBefore w (IsMade records old.number id.0))) c.create-rank.result.1 c.in-Ok.is c.create-rank.ensures.made in record {
      ready = created_ready w old new c.requires.ready (Import a bytes) asks created c.create-rank.ensures.same (λ store caller random. undrawn store caller (recorded_of store caller a (length bytes)) bytes) c.create-rank.ensures.at c.create-rank.ensures.legal;
      answered = created_answered w old new c.requires.ready (Import a bytes) asks created (by_before w created.decided) (Ok (output.Identifier id)) (λ start is. refl) (λ service made. tt)
          (λ service made. made_gives service old.number (OnStore (Import a bytes)) records bytes (λ recorded is. ap (λ o. (created_unless service.store old.number o bytes).reply) (sym is)) id made);
      same = c.create-rank.ensures.same;
    }

pub returns-in-Err : goal.returns-in-Err
returns-in-Err g c =
    let w = world c.args.shared.now in let old = c.args.self.now in let new = c.create-rank.new.self in let asks = ap (λ x. model_request x c.args.room) c.requires.call in let a = c.args.attributes in let bytes = c.args.bytes.now in
    let records = RecordsStated None old.number a (length bytes) in let why = c.in-Err.why in
    let created = if_err (λ why. IsCreated old.pass.me.0 new.pass.me.0 (model_request c.args.call.now c.args.room) (mark_unmade why) c.create-rank.result.0 (DecidesBefore w (IsUnmade records why))) c.create-rank.result.1 c.in-Err.is c.create-rank.ensures.unmade in record {
      ready = created_ready w old new c.requires.ready (Import a bytes) asks created c.create-rank.ensures.same (λ store caller random. undrawn store caller (recorded_of store caller a (length bytes)) bytes) c.create-rank.ensures.at c.create-rank.ensures.legal;
      answered = created_answered w old new c.requires.ready (Import a bytes) asks created (by_before w created.decided) (Err c.status.result) (λ start is. let d = created.decided start is in ap failure_told c.status.ensures ∙ unmade_tells records d.model (stated_plainly None old.number a (length bytes) d.model) why d.holds)
          (λ service unmade. unmade_marked service old.number (OnStore (Import a bytes)) refl records bytes (λ recorded is. ap (λ o. (created_unless service.store old.number o bytes).store) (sym is)) (λ recorded is. ap (λ o. (created_unless service.store old.number o bytes).reply) (sym is)) why unmade)
          (λ service unmade. rw c.status.ensures (unmade_gives service old.number (OnStore (Import a bytes)) records bytes (λ recorded is. ap (λ o. (created_unless service.store old.number o bytes).reply) (sym is)) why unmade));
      same = c.create-rank.ensures.same;
    }
