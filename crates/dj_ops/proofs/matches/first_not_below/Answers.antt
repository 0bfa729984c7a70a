use Rattle.std.proofs.Common.{rules, int_lt}
use Rattle.std.proofs.lemmas.List.Sorted.{IsPartitionPoint-from_clause}
use Rattle.dj_ops.proofs.Lookups.{parted}
use Rattle.dj_ops.proofs.matches.first_not_below.Goals as goal

pub returns-clause-point : goal.returns-clause-point
returns-clause-point c =
    IsPartitionPoint-from_clause (λ pair. int_lt pair.0 c.args.wanted) _ _ c.partition_point.ensures.partitioned (parted c.args.pairs.now c.args.wanted c.requires) (λ a r q k. search rules)
