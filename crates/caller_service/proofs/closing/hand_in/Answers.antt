use Rattle.caller_service.proofs.Common.{All-pop, IfSome, IsIdle, IsRetired, [], account_of, ap, append_assoc, arith, length, length_push, map, option_to_list, reverse, reverse-append, subst, sym, ◌++◌, ◌∙◌, ◌∷◌, ◌≡◌}
use Rattle.caller_service.proofs.closing.hand_in.Goals as goal

pub into_pass-requires-clause-retired : goal.into_pass-requires-clause-retired
into_pass-requires-clause-retired g c κs within =
    let P = IsRetired c.args.ending.lock.table.shared.table_id in
    (subst (λ o. IfSome o P) c.in-Some.is (All-pop P c.loop-caller.callers.items c.pop.new.self.items c.pop.result c.pop.ensures.items c.loop-caller.invariant.retired).1).cells

pub take-requires : goal.take-requires
take-requires g c =
    let i = c.loop-caller.invariant in let P = IsRetired c.args.ending.lock.table.shared.table_id in
    let r = subst (λ o. IfSome o P) c.in-Some.is (All-pop P c.loop-caller.callers.items c.pop.new.self.items c.pop.result c.pop.ensures.items i.retired).1 in
    subst (IsIdle c.loop-caller.ending.lock.table.shared.table_id) (sym c.into_pass.ensures.pass) (subst (λ l. IsIdle l.table.shared.table_id c.in-Some.caller.pass) (sym i.lock) r.idle)

pub loop-caller-preserved : goal.loop-caller-preserved
loop-caller-preserved g c =
    let i = c.loop-caller.invariant in let left = c.pop.new.self.items in
    let parts = c.pop.ensures.items ∙ ap (λ o. left ++ option_to_list o) c.in-Some.is in
    let ones = All-pop (λ c. c.pass.me.0.weight ≡ 1) c.loop-caller.callers.items left c.pop.result c.pop.ensures.items i.one in
    let before = c.loop-caller.ending.last.me.0.accounts in
    record {
      lock = c.take.ensures.lock ∙ i.lock;
      retired = (All-pop (IsRetired c.args.ending.lock.table.shared.table_id) c.loop-caller.callers.items left c.pop.result c.pop.ensures.items i.retired).0;
      one = ones.0;
      accounts = ap (λ l. l ++ map (λ c. account_of c.pass.me.0) (reverse left)) (c.take.ensures.accounts ∙ ap (λ p. before ++ account_of p.me.0 ∷ []) c.into_pass.ensures.pass)
          ∙ append_assoc before (account_of c.in-Some.caller.pass.me.0 ∷ []) (map (λ c. account_of c.pass.me.0) (reverse left))
          ∙ ap (λ l. before ++ map (λ c. account_of c.pass.me.0) l) (sym (ap reverse parts ∙ reverse-append left (c.in-Some.caller ∷ []))) ∙ i.accounts;
      weight = let a = c.take.ensures.weight in let b = i.weight in let d = ap (λ p. p.me.0.weight) c.into_pass.ensures.pass in
          let e = subst (λ o. IfSome o (λ c. c.pass.me.0.weight ≡ 1)) c.in-Some.is ones.1 in let f = ap length parts in let n = length_push left c.in-Some.caller in omega arith;
    }
