use Rattle.callers.proofs.{Common.Err, Common.Generate, Common.InvalidArgument, Common.None, Common.Some, Common.Status, Common.ap, Common.model_request, Common.refl, Common.sym, Common.world, Common.◌∙◌, Common.◌≡◌, Generating.no_bytes_drawn, Generating.no_bytes_give, Storing.stored_answered, Storing.stored_ready, Storing.undecided}
use Rattle.callers.proofs.caller.Caller.generate.Goals as goal

clash : {s : Status} → Some s ≡ None → ⊥
clash e = cc

pub returns-then-not-says_bytes-clause-ready : goal.returns-then-not-says_bytes-clause-ready
returns-then-not-says_bytes-clause-ready g c =
    stored_ready (world c.args.shared.now) c.args.self.now (record c.args.self.now { pass = c.count-rank.new.pass }) c.requires.ready (Generate c.args.attributes) (ap (λ x. model_request x c.args.room) c.requires.call) c.count-rank.ensures.counted
    (record { number = refl; spent = refl; stream = refl; spares = refl; handles = refl }) (no_bytes_drawn c.args.attributes (λ none. clash (sym (c.says_bytes.ensures.no c.if-not-says_bytes.true) ∙ none))) c.count-rank.ensures.at c.count-rank.ensures.legal

pub returns-then-not-says_bytes-clause-answered : goal.returns-then-not-says_bytes-clause-answered
returns-then-not-says_bytes-clause-answered g c buffer =
    let w = world c.args.shared.now in let old = c.args.self.now in let new = record old { pass = c.count-rank.new.pass } in let asks = ap (λ x. model_request x c.args.room) c.requires.call in let ranked = c.count-rank.ensures.counted in
    stored_answered w old new c.requires.ready (Generate c.args.attributes) asks ranked (undecided w old new c.requires.ready (Generate c.args.attributes) asks ranked) (Err InvalidArgument) buffer buffer (λ start is. refl) (λ service none. tt)
    (λ service none. let g = no_bytes_give service old.number c.args.attributes InvalidArgument (c.says_bytes.ensures.no c.if-not-says_bytes.true) in (g.answers, g.unwritten buffer))
