use Rattle.policy_rules.proofs.Copies.{meet-within_source, meet-within_stated, copy-within, chain-within}
use Rattle.policy_rules.proofs.laws.copies_gain_nothing.Goals as goal

pub returns : goal.returns
returns c = record { met = meet-within_source; stated = meet-within_stated; copy = copy-within; chain = λ origin all. chain-within all origin }
