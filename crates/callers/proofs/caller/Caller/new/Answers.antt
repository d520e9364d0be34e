use Rattle.callers.proofs.{Common.List, Common.RandomStream, Common.ap, Common.arith, Common.refl, Common.world, Common.ℕ, Common.◌∙◌, Starting.starts_ready}
use Rattle.callers.proofs.caller.Caller.new.Goals as goal

pub returns-clause-ready : goal.returns-clause-ready
returns-clause-ready g c =
    let w = world c.args._shared.now in
    let r = c.requires in starts_ready w _ r.table r.fresh r.first r.last r.sound r.four r.inactive r.five r.clear (let ok = c.args.spares.ok in let five = r.five in omega arith) (c.new.ensures ∙ ap (λ (s : List ℕ). let x : RandomStream = record { seed = s; caller = c.args.number; place = 0 } in x) r.seed) refl
