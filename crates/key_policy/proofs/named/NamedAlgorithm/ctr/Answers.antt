use Rattle.std.proofs.Common.{refl}
use Rattle.alg_encoding.specs.Table as table
use Rattle.key_policy.proofs.Common.{algorithm_of, base_of, entry_of, is_concrete, tag_length_of}
use Rattle.key_policy.proofs.named.NamedAlgorithm.ctr.Goals as goal

pub invariant_of-result : goal.invariant_of-result
unfolding algorithm_of is_concrete base_of tag_length_of entry_of table.base_at
invariant_of-result c = refl
