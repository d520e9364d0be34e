use Rattle.locked_store.proofs.held.HeldHistoric.entries.Goals as goal

pub returns : goal.returns
returns g c = λ history holdings s. (s.each s.start s.starts).holds.ranked
