use Rattle.turn_history.proofs.{Common.IsIdle, Common.[], Common.account_of, Common.ap, Common.append_assoc, Common.subst, Common.sym, Common.◌++◌, Common.◌+◌, Common.◌∙◌, Common.◌∷◌, Lists.All_next, Passes.accounts_snoc, Passes.weight_snoc}
use Rattle.turn_history.proofs.lock.HistoryLock.close.Goals as goal

pub take-requires : goal.take-requires
take-requires g c = let i = c.loop-pass.invariant in
    subst (λ l. IsIdle l.table.shared.table_id c.in-Some.pass) (sym i.lock)
    (All_next (IsIdle c.args.self.table.shared.table_id) c.args.passes.items c.loop-pass.yielded c.in-Some.pass c.next.new.self.rest.items c.requires.own (i.items ∙ ap (λ l. c.loop-pass.yielded ++ l) c.in-Some.ensures.steps.0))

pub loop-pass-preserved : goal.loop-pass-preserved
loop-pass-preserved g c = let i = c.loop-pass.invariant in let z = c.take.ensures in record {
  lock = z.lock ∙ i.lock;
  accounts = z.accounts ∙ (ap (λ l. l ++ account_of c.in-Some.pass.me.0 ∷ []) i.accounts ∙ sym (accounts_snoc c.loop-pass.yielded c.in-Some.pass));
  weighs = z.weight ∙ (ap (λ n. n + c.in-Some.pass.me.0.weight) i.weighs ∙ sym (weight_snoc c.loop-pass.yielded c.in-Some.pass));
  items = i.items ∙ (ap (λ l. c.loop-pass.yielded ++ l) c.in-Some.ensures.steps.0 ∙ sym (append_assoc c.loop-pass.yielded (c.in-Some.pass ∷ []) c.next.new.self.rest.items));
}
