use Rattle.callers.proofs.Common.{DecidesBefore, Err, Generate, IsCreated, IsMade, IsUnmade, None, Ok, OnStore, Plain, RandomStream, RecordsStated, ap, arith, drawn_for, draws_none, failure_told, length, mark_unmade, model_request, refl, replay, world, ◌∙◌}
use Rattle.service_calls.specs.declared.output.Output.TheVariants as output
use Rattle.callers.proofs.{Generating.few_for, Generating.generates, Generating.generated_marked, Generating.generation_replies, Generating.made_own, Generating.unmade_own, Failing.stated_plainly, Failing.unmade_tells, Made.made_gives, Made.unmade_gives, Supposed.by_before}
use Rattle.callers.proofs.{Readying.known, Storing.created_answered, Storing.decided_known, Storing.drew_ready, Storing.has_no_filling, Storing.if_err, Storing.if_ok}
use Rattle.callers.proofs.caller.Caller.create_random.Goals as goal

pub create-rank-requires-clause-space : goal.create-rank-requires-clause-space
create-rank-requires-clause-space g c κs within =
    has_no_filling (world c.args.shared.now) 4 (record c.args.self.now { stream = record c.args.self.now.stream { place = c.args.place } }) c.requires.ready

pub create-rank-requires-clause-creates : goal.create-rank-requires-clause-creates
create-rank-requires-clause-creates g c κs within =
    generates (world c.args.shared.now) 4 (record c.args.self.now { stream = record c.args.self.now.stream { place = c.args.place } }) c.requires.ready c.args.attributes (model_request c.args.call.now c.args.room) (ap (λ x. model_request x c.args.room) c.requires.call) c.requires.whole c.args.bytes.now
    c.requires.count c.requires.bytes

pub returns-in-Ok : goal.returns-in-Ok
returns-in-Ok g c =
    let w = world c.args.shared.now in let old = record c.args.self.now { stream = record c.args.self.now.stream { place = c.args.place } } in let new = c.create-rank.new.self in let r = c.requires.ready in
    let request = model_request c.args.call.now c.args.room in let asks = ap (λ x. model_request x c.args.room) c.requires.call in let bytes = c.args.bytes.now in let a = c.args.attributes in
    let records = RecordsStated None old.number a (length bytes) in let same = c.create-rank.ensures.same in let id = c.in-Ok.id in let stream = same.stream ∙ c.requires.drawn in
    let created = if_ok (λ id. IsCreated old.pass.me.0 new.pass.me.0 request Plain c.create-rank.result.0 (DecidesBefore w (IsMade records old.number id.0))) c.create-rank.result.1 c.in-Ok.is c.create-rank.ensures.made in
    let made = decided_known w (IsMade records old.number id.0) created.before created.entry created.decided in record {
      ready = drew_ready w old new r (Generate a) asks created (drawn_for a) (few_for a) same.number same.spent same.handles same.spares stream c.create-rank.ensures.at c.create-rank.ensures.legal (λ start starts tells.
          let k = known w 4 old new r 2 request Plain c.create-rank.result.0 created.before created.entry created.called start starts tells in
          made_own (replay start created.before) old.number a c.requires.whole (length bytes) c.requires.count r.operations old.stream.place new.stream.place k.sound r.last k.own id (ap (λ (s : RandomStream). s.place) stream) (made start starts tells));
      answered = created_answered w old new r (Generate a) asks created (by_before w created.decided) (Ok (output.Identifier id)) (λ start is. refl) (λ service made. tt)
          (λ service made. made_gives service old.number (OnStore (Generate a)) records bytes (generation_replies service old.number a bytes c.requires.whole c.requires.count) id made);
      spent = same.spent;
      handles = same.handles;
    }

pub returns-in-Err : goal.returns-in-Err
returns-in-Err g c =
    let w = world c.args.shared.now in let old = record c.args.self.now { stream = record c.args.self.now.stream { place = c.args.place } } in let new = record c.create-rank.new.self { stream = c.go_back.new.self } in let r = c.requires.ready in
    let request = model_request c.args.call.now c.args.room in let asks = ap (λ x. model_request x c.args.room) c.requires.call in let bytes = c.args.bytes.now in let a = c.args.attributes in
    let records = RecordsStated None old.number a (length bytes) in let same = c.create-rank.ensures.same in let why = c.in-Err.why in let stream = c.go_back.ensures ∙ (λ i. record (same.stream i) { place = c.args.place }) ∙ draws_none old.stream in
    let created = if_err (λ why. IsCreated old.pass.me.0 new.pass.me.0 request (mark_unmade why) c.create-rank.result.0 (DecidesBefore w (IsUnmade records why))) c.create-rank.result.1 c.in-Err.is c.create-rank.ensures.unmade in
    let unmade = decided_known w (IsUnmade records why) created.before created.entry created.decided in record {
      ready = drew_ready w old new r (Generate a) asks created 0 (omega arith) same.number same.spent same.handles same.spares stream c.create-rank.ensures.at c.create-rank.ensures.legal (λ start starts tells.
          let k = known w 4 old new r 2 request (mark_unmade why) c.create-rank.result.0 created.before created.entry created.called start starts tells in
          unmade_own (replay start created.before) old.number a c.requires.whole (length bytes) c.requires.count r.operations old.stream.place new.stream.place k.sound r.last k.own why (let p = ap (λ (s : RandomStream). s.place) stream in omega arith) (unmade start starts tells));
      answered = created_answered w old new r (Generate a) asks created (by_before w created.decided) (Err c.status.result) (λ start is. let d = created.decided start is in ap failure_told c.status.ensures ∙ unmade_tells records d.model (stated_plainly None old.number a (length bytes) d.model) why d.holds)
          (λ service unmade. generated_marked service old.number a (length bytes) c.requires.whole c.requires.count why unmade)
          (λ service unmade. rw c.status.ensures (unmade_gives service old.number (OnStore (Generate a)) records bytes (generation_replies service old.number a bytes c.requires.whole c.requires.count) why unmade));
      spent = same.spent;
      handles = same.handles;
    }
