use Rattle.std.proofs.Common.{ap, subst, sym, ◌∙◌}
use Rattle.key_policy.proofs.{Common.algorithm_of, Parsing.Named, Parsing.named}
use Rattle.key_policy.proofs.named.NamedAlgorithm.algorithm.Goals as goal

pub returns : goal.returns
returns c =
    let own = subst (Named c.args.self.0) (sym (c.self.invariant ∙ ap (λ alg. algorithm_of alg.0) c.self.view_is)) (named c.args.self.0) in
    record { concrete = own.concrete; class = own.of_class; hmac = own.hmac; names = own.names }
