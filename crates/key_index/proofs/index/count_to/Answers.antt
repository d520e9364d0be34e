use Rattle.key_index.proofs.{Common.Entry, Common.arith, Common.sym, Counts.counted_at}
use Rattle.std.proofs.{Common.nat_le, Common.rules, lemmas.List.Sorted.IsPartitionPoint-from_clause, lemmas.List.Sorted.IsPartitionedBy-leb}
use Rattle.key_index.proofs.index.count_to.Goals as goal

pub returns : goal.returns
returns c =
    let parted = IsPartitionedBy-leb (λ (e : Entry). e.id) _ c.args.last c.requires in
    let point = IsPartitionPoint-from_clause (λ (e : Entry). nat_le e.id c.args.last) _ _ c.partition_point.ensures.partitioned parted (λ a r q k. search rules) in
    sym (counted_at _ c.args.entries.now _ c.partition_point.ensures.bound (λ k d lt. point.0 k d (omega arith) lt) (λ k d past lt. point.1 k d past lt))
