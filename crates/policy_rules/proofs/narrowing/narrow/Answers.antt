use Rattle.policy_rules.proofs.{Common.Attributes, Common.IsWithin, Common.NoCopy, Common.NoExport, Common.subst, Common.sym, Rules.narrowed-within}
use Rattle.policy_rules.proofs.narrowing.narrow.Goals as goal

pub returns-in-NoExport-clause-within : goal.returns-in-NoExport-clause-within
returns-in-NoExport-clause-within c =
    subst (λ (a : Attributes). IsWithin a.policy c.args.attributes.now.policy) (sym c.with_usage.ensures) (narrowed-within NoExport c.args.attributes.now)

pub returns-in-NoCopy-clause-within : goal.returns-in-NoCopy-clause-within
returns-in-NoCopy-clause-within c =
    subst (λ (a : Attributes). IsWithin a.policy c.args.attributes.now.policy) (sym c.with_usage-in-NoCopy.ensures) (narrowed-within NoCopy c.args.attributes.now)
