use Rattle.session_host.proofs.Common.{HaveForm, HaveRun, ReplyForm, numbers_of, take, true, world, ◌≡◌}
use Rattle.session_host.proofs.worker.Worker.run.Given as goal

abbrev pub invariant-loop-line : goal.invariant-loop-line
invariant-loop-line g l = record {
  ran : HaveRun (world l.service.shared) l.names (take l.line-index l.lines) l.self;
  numbers : numbers_of l.self.sessions.items ≡ numbers_of l.fn.self.sessions.items;
  form : (form : ReplyForm) → HaveForm form l.fn.self.sessions.items → HaveForm form l.self.sessions.items;
  whole : l.self.whole ≡ true;
}
