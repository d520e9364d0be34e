use Rattle.policy_rules.proofs.{Common.IfSome, Common.IsWithin, Common.MayUseBoth, Common.subst, Common.sym, Copies.meet-may_use_both, Copies.meet-within}
use Rattle.policy_rules.proofs.policy.meet.Goals as goal

pub returns : goal.returns
returns c =
    let a = c.args.a.now in
    let b = c.args.b.now in
    record {
      value = c.met.ensures;
      within = subst (λ o. IfSome o (λ met. IsWithin met a × IsWithin met b)) (sym c.met.ensures) (meet-within a b);
      both = λ one_a one_b. subst (MayUseBoth a b) (sym c.met.ensures) (meet-may_use_both a b one_a one_b);
    }
