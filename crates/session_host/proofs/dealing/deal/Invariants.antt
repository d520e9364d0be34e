use Rattle.session_host.proofs.{Common.Names, Common.length, Common.take, Common.vec_capacity, Common.world, Common.◌-◌, Common.◌≡◌, Common.◌≤◌, Dealt.IsDealing}
use Rattle.session_host.proofs.dealing.deal.Given as goal

abbrev pub invariant-loop : goal.invariant-loop
invariant-loop g l = record {
  callers : l.callers.items ≡ take (16 - l.counter) l.fn.callers.items;
  space : 16 ≤ vec_capacity l.callers;
  dealing : (names : Names) → IsDealing (world l.service.shared) names l.form l.counter l.workers;
  count : length l.workers ≡ length l.fn.workers;
  counted : l.count ≡ length l.fn.workers;
}
