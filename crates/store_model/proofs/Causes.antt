-- A history whose marks are caused and allowed, with one more entry.

use Rattle.std.proofs.Common.{[], ◌∷◌}
use Rattle.store_model.proofs.Common.{AllowedGoOn, CausesGoOn, outcome_of}

pub go_on : CausesGoOn
go_on tells counts [] e caused fault = (fault, tt)
go_on tells counts (first ∷ h) e caused fault = (caused.0, go_on tells (record { faults = first.faults; device_faults = first.device_faults }) h e caused.1 fault)

pub allowed_go_on : AllowedGoOn
allowed_go_on service [] e allowed may = (may, tt)
allowed_go_on service (first ∷ h) e allowed may = (allowed.0, allowed_go_on (outcome_of service first).service h e allowed.1 may)
