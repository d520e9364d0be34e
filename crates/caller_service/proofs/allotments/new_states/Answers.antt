use Rattle.caller_service.proofs.Common.{All, All-push, AreInactive, ap, arith, length, length_push, subst, sym}
use Rattle.caller_service.proofs.allotments.new_states.Goals as goal

pub loop-preserved : goal.loop-preserved
loop-preserved c =
    let i = c.loop.invariant in let pushed = c.push_reserved.ensures.items in record {
      count = let a = i.count in let e = ap length pushed in let f = length_push c.loop.states.items c.in_ok-new.field-0 in omega arith;
      inactive = subst (All AreInactive) (sym pushed) (All-push AreInactive c.loop.states.items c.in_ok-new.field-0 i.inactive c.in_ok-new.ensures);
      room = let a = i.room in let b = c.push_reserved.ensures.capacity in omega arith;
    }
