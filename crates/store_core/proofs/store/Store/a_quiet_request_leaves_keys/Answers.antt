use Rattle.store_core.proofs.Histories.{quiet_leaves}
use Rattle.store_core.proofs.store.Store.a_quiet_request_leaves_keys.Goals as goal

pub returns : goal.returns
returns g c = λ start h e quiet.
    quiet_leaves g.D.Disk g.A.Devices g.C.Admission c.args.self.now start h e quiet
