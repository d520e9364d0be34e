use Rattle.caller_service.proofs.Common.{All-pop, All-push, AreIdle, AreInactive, IfSome, Inactive, IsOperation, None, ap, arith, length, length_push, option_to_list, subst, sym, ◌++◌, ◌∙◌, ◌≡◌}
use Rattle.caller_service.proofs.allotments.into_handles.Goals as goal

pub new-requires : goal.new-requires
new-requires c = subst (λ o. IfSome o AreInactive) c.in-Some.is
    (All-pop AreInactive c.loop-state.states.items c.pop.new.self.items c.pop.result c.pop.ensures.items c.loop-state.invariant.inactive).1

pub loop-state-preserved : goal.loop-state-preserved
loop-state-preserved c =
    let i = c.loop-state.invariant in let pushed = c.push_reserved.ensures.items in record {
      count = let a = i.count in let b = ap length (c.pop.ensures.items ∙ ap (λ o. c.pop.new.self.items ++ option_to_list o) c.in-Some.is) in
          let d = length_push c.pop.new.self.items c.in-Some.state in let e = ap length pushed in let f = length_push c.loop-state.handles.items c.new.result in omega arith;
      inactive = (All-pop AreInactive c.loop-state.states.items c.pop.new.self.items c.pop.result c.pop.ensures.items i.inactive).0;
      idle = subst AreIdle (sym pushed) (All-push (λ x. IsOperation x Inactive × (x.lease ≡ None)) c.loop-state.handles.items c.new.result i.idle (c.new.ensures.state, c.new.ensures.none));
      room = let a = i.room in let b = c.push_reserved.ensures.capacity in omega arith;
    }
