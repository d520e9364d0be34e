use Rattle.callers.proofs.{Common.SameButPass, Common.ap, Common.joined, Common.refl, Common.world, Common.◌≡◌, Learning.learned, Learning.other_seen, Learning.own_seen}
use Rattle.callers.proofs.caller.Caller.learn.Goals as goal

pub returns : goal.returns
returns g c =
    let w = world c.args.shared.now in let r = c.requires in let j = c.join.ensures in let old = c.args.self.now in let new = record old { pass = c.join.new.pass } in let pass : new.pass.me.0 ≡ joined old.pass.me.0 c.args.watcher.me.0 = ap (λ m. m.0) j.pass in
    let same : SameButPass old new = record { number = refl; spent = refl; stream = refl; spares = refl; handles = refl } in record {
      ready = learned w old new c.args.watcher.me.0 r.ready pass j.order j.same.0 (ap (λ m. m.1) j.pass) j.calls r.weightless r.legal same;
      pass = pass;
      own = own_seen w old new c.args.watcher.me.0 r.ready pass j.order;
      learned = other_seen w old new c.args.watcher.me.0 r.ready pass j.order;
      same = same;
    }
