use Rattle.session_host.proofs.{Common.length, Common.vec_capacity, Common.◌-◌, Common.◌≡◌, Common.◌≤◌, Dealt.IsTaking}
use Rattle.session_host.proofs.dealing.gather.Given as goal

abbrev pub invariant-loop-number : goal.invariant-loop-number
invariant-loop-number g l = record {
  taking : IsTaking (17 - l.number) l.fn.workers l.workers l.callers.items l.replies.items;
  callers : 16 ≤ vec_capacity l.callers;
  replies : 16 ≤ vec_capacity l.replies;
  counted : l.count ≡ length l.fn.workers;
}
