use Rattle.policy_rules.proofs.Copies.{meet-permits_both, meet-may_use_both}
use Rattle.policy_rules.proofs.laws.meet_permits_both.Goals as goal

pub returns : goal.returns
returns c = record { algorithms = meet-permits_both; policies = meet-may_use_both }
