use Rattle.session_host.proofs.Bounds.{bounded}
use Rattle.session_host.proofs.laws.marks_are_bounded.Goals as goal

pub returns : goal.returns
returns c = bounded
