-- Which key a call in one part reads.

use Rattle.std.proofs.Common.{refl}
use Rattle.single_part.proofs.Common.{Compare, Compute, Export, HashCallsRead, KeyedCallsRead}

pub keyed : KeyedCallsRead
keyed service caller Export id room = (refl, refl)
keyed service caller _ id room = (refl, refl)

pub hashes : HashCallsRead
hashes service caller (Compute alg input) room = (refl, refl)
hashes service caller (Compare alg input hash) room = (refl, refl)
