use Rattle.caller_service.proofs.Common.{All, All-push, IsAllotment, ap, arith, length, length_push, subst, sym}
use Rattle.caller_service.proofs.allotments.take.Goals as goal

pub loop-preserved : goal.loop-preserved
loop-preserved c =
    let i = c.loop.invariant in let pushed = c.push_reserved.ensures.items in record {
      count = let a = i.count in let e = ap length pushed in let f = length_push c.loop.allotments.items c.in-Ok.allotment in omega arith;
      are = subst (All IsAllotment) (sym pushed) (All-push IsAllotment c.loop.allotments.items c.in-Ok.allotment i.are c.in-Ok.ensures);
      room = let a = i.room in let b = c.push_reserved.ensures.capacity in omega arith;
    }
