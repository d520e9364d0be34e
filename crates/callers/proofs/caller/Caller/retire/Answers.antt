use Rattle.callers.proofs.{Common.IsRetiring, Common.arith, Common.subst, Common.world, Common.◌≡◌, Retiring.ends}
use Rattle.callers.proofs.caller.Caller.retire.Goals as goal

pub returns-clause-retired : goal.returns-clause-retired
returns-clause-retired g c =
    let w = world c.args.shared.now in
    ends w c.loop-place.self (subst (λ n. IsRetiring w n c.loop-place.self) (let low = c.loop-place-test.false in let high = c.loop-place.auto.place-end in let e : c.loop-place.place ≡ 4 = omega arith in e) c.loop-place.invariant.retiring)
