use Rattle.std.proofs.Common.{ap}
use Rattle.script_lang.proofs.Common.{bytes_eq, lookup, places_of}
use Rattle.script_lang.proofs.sessions.SessionNames.new.Goals as goal

pub returns-clause-places : goal.returns-clause-places
unfolding places_of
returns-clause-places c = λ n. ap (lookup (λ k. bytes_eq n k.items)) c.new.ensures.empty
