use Rattle.session_host.proofs.{Common.world_of, Replayed.replayed}
use Rattle.session_host.proofs.laws.sessions_are_replayed.Goals as goal

pub returns : goal.returns
returns g c lock opened names start history session lines turns is told tells are = replayed (world_of g.D.Disk g.A.Devices g.C.Admission lock opened) names start is history told tells session lines turns are
