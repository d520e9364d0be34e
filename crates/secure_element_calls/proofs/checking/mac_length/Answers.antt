use Rattle.secure_element_calls.proofs.Lengths.{length-mac}
use Rattle.secure_element_calls.proofs.checking.mac_length.Goals as goal

pub returns-clause-whole : goal.returns-clause-whole
returns-clause-whole c = length-mac c.args.alg.0 c.unwrap.result c.from.result (rw c.unwrap.ensures at c.mac.ensures.names) c.from.ensures
