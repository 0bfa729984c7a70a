use Rattle.std.proofs.Common.{rules, ltb}
use Rattle.std.proofs.lemmas.List.Sorted.{IsPartitionPoint-from_clause}
use Rattle.dj_member_index.specs.DirectoryRows.{key_of}
use Rattle.dj_member_index.proofs.RowLaws.{parted}
use Rattle.dj_member_index.proofs.rows.first_not_below.Goals as goal

pub returns-clause-point : goal.returns-clause-point
returns-clause-point c =
    IsPartitionPoint-from_clause (λ row. ltb (key_of row) c.args.key) _ _ c.partition_point.ensures.partitioned (parted c.args.rows.now c.args.key c.requires) (λ a r q k. search rules)
