use Rattle.callers.proofs.caller.Caller.watch.Goals as goal

pub returns-clause-same : goal.returns-clause-same
returns-clause-same g c = let s = c.split.ensures.same in λ i. record c.args.self.now { pass = record c.args.self.now.pass { table_id = s.0 i; id = s.1 i; me = s.2 i } }
