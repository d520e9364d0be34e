use Rattle.std.proofs.Common.{length}
use Rattle.psa_names.proofs.Flags.{IsReadSoFar}
use Rattle.psa_names.proofs.usages.flags_of.Given as goal

abbrev pub invariant-loop-comma : goal.invariant-loop-comma
invariant-loop-comma l = IsReadSoFar l.usage l.rest l.text

abbrev pub decreases-loop-comma : goal.decreases-loop-comma
decreases-loop-comma l = length l.rest
