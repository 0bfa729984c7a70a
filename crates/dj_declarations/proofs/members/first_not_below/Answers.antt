use Rattle.std.proofs.Common.{rules, ltb}
use Rattle.std.proofs.lemmas.List.Sorted.{IsPartitionPoint-from_clause}
use Rattle.dj_declarations.specs.MemberRows.{key_at}
use Rattle.dj_declarations.proofs.RowLaws.{parted}
use Rattle.dj_declarations.proofs.members.first_not_below.Goals as goal

pub returns-clause-point : goal.returns-clause-point
returns-clause-point c =
    IsPartitionPoint-from_clause (λ place. ltb (key_at c.args.rows.now place) c.args.key) _ _ c.partition_point.ensures.partitioned
    (parted c.args.rows.now c.args.order.now c.args.key c.requires) (λ a r q k. search rules)
