use Rattle.callers.proofs.Common.{Copy, DecidesBefore, Err, IsMade, IsRanked, IsUncopied, Ok, OnStore, Plain, RecordsCopy, SameButPass, ap, bytes_of_key, created_unless, failure_told, filling_pair, mark_uncopied, model_request, recorded_copy, refl, sym, without_pair, world, ◌∙◌}
use Rattle.std.specs.FinMap as map
use Rattle.service_calls.specs.declared.output.Output.TheVariants as output
use Rattle.callers.proofs.{Failing.uncopied_tells, Made.made_gives, Made.undrawn, Made.uncopied_gives, Marked.uncopied_marked, Storing.created_answered, Storing.created_in, Storing.created_ready, Storing.has_no_filling, Storing.if_err, Storing.if_ok, Supposed.by_before}
use Rattle.callers.proofs.caller.Caller.copy.Goals as goal

pub reserve-filling-requires-clause-space : goal.reserve-filling-requires-clause-space
reserve-filling-requires-clause-space g c κs within = has_no_filling (world c.args.shared.now) 4 c.args.self.now c.requires.ready

pub returns-in-Ok : goal.returns-in-Ok
returns-in-Ok g c =
    let w = world c.args.shared.now in let old = c.args.self.now in let new = record old { pass = c.copy-rank.new.pass } in let asks = ap (λ x. model_request x c.args.room) c.requires.call in let filling = c.reserve-filling.result in let u = c.reserve-filling.new.pass.me.0 in
    let source = c.args.source.0 in let stated = c.args.attributes in let records = RecordsCopy old.number source stated in let id = c.in-Ok.id in let same : SameButPass old new = record { number = refl; spent = refl; stream = refl; spares = refl; handles = refl } in
    let created = created_in filling c.reserve-filling.ensures.later
    (if_ok (λ id. IsRanked u new.pass.me.0 (model_request c.args.call.now c.args.room) Plain c.copy-rank.result.0 (without_pair (filling_pair filling) u.holding) (DecidesBefore w (IsMade records old.number id.0))) c.copy-rank.result.1 c.in-Ok.is c.copy-rank.ensures.made) in record {
      ready = created_ready w old new c.requires.ready (Copy source stated) asks created same (λ store caller random. undrawn store caller (recorded_copy store caller (map.get store.keys source) stated) (bytes_of_key (map.get store.keys source))) c.copy-rank.ensures.at c.copy-rank.ensures.legal;
      answered = created_answered w old new c.requires.ready (Copy source stated) asks created (by_before w created.decided) (Ok (output.Identifier id)) (λ start is. refl) (λ service made. tt) (λ service made.
          let bytes = bytes_of_key (map.get service.store.keys source) in
          made_gives service old.number (OnStore (Copy source stated)) records bytes (λ recorded is. ap (λ o. (created_unless service.store old.number o bytes).reply) (sym is)) id made);
      same = same;
    }

pub returns-in-Err : goal.returns-in-Err
returns-in-Err g c =
    let w = world c.args.shared.now in let old = c.args.self.now in let new = record old { pass = c.copy-rank.new.pass } in let asks = ap (λ x. model_request x c.args.room) c.requires.call in let filling = c.reserve-filling.result in let u = c.reserve-filling.new.pass.me.0 in
    let source = c.args.source.0 in let stated = c.args.attributes in let records = RecordsCopy old.number source stated in let why = c.in-Err.why in let same : SameButPass old new = record { number = refl; spent = refl; stream = refl; spares = refl; handles = refl } in
    let created = created_in filling c.reserve-filling.ensures.later
    (if_err (λ why. IsRanked u new.pass.me.0 (model_request c.args.call.now c.args.room) (mark_uncopied why) c.copy-rank.result.0 (without_pair (filling_pair filling) u.holding) (DecidesBefore w (IsUncopied records source why))) c.copy-rank.result.1 c.in-Err.is c.copy-rank.ensures.uncopied) in record {
      ready = created_ready w old new c.requires.ready (Copy source stated) asks created same (λ store caller random. undrawn store caller (recorded_copy store caller (map.get store.keys source) stated) (bytes_of_key (map.get store.keys source))) c.copy-rank.ensures.at c.copy-rank.ensures.legal;
      answered = created_answered w old new c.requires.ready (Copy source stated) asks created (by_before w created.decided) (Err c.status.result) (λ start is. let d = created.decided start is in ap failure_told c.status.ensures ∙ uncopied_tells start old.number source stated d.model why d.holds) (λ service uncopied. uncopied_marked service old.number source stated why uncopied) (λ service uncopied.
          let bytes = bytes_of_key (map.get service.store.keys source) in
          rw c.status.ensures (uncopied_gives service old.number source (OnStore (Copy source stated)) records bytes (λ recorded is. ap (λ o. (created_unless service.store old.number o bytes).reply) (sym is))
          (λ none. ap (λ found. recorded_copy service.store old.number found stated) (sym none)) why uncopied));
      same = same;
    }
