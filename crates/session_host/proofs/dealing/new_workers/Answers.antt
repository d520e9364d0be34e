use Rattle.session_host.proofs.Common.{All, All-push, IsFree, ap, arith, length, length_push, subst, sym, ◌+◌, ◌∙◌}
use Rattle.session_host.proofs.dealing.new_workers.Goals as goal

pub loop-preserved : goal.loop-preserved
loop-preserved g c =
    let p = c.push_reserved.ensures in let v = c.loop.invariant in record {
      count = ap length p.items ∙ (length_push c.loop.workers.items c.in-Ok-new_worker.worker ∙ ap (λ n. n + 1) v.count);
      free = subst (All IsFree) (sym p.items) (All-push IsFree c.loop.workers.items c.in-Ok-new_worker.worker v.free c.in-Ok-new_worker.ensures);
      room = let a = p.capacity in let b = v.room in omega arith;
    }
