use Rattle.session_host.proofs.FaultLines.{bounded_lines}
use Rattle.session_host.proofs.laws.lines_are_bounded.Goals as goal

pub returns : goal.returns
returns c = bounded_lines
