use Rattle.dj_resolution.specs.Numbers.{lists_of, once_above}
use Rattle.dj_resolution.specs.Chained.{row_at}
use Rattle.dj_resolution.proofs.Chained.{lists_ok, rows_inside}
use Rattle.dj_resolution.proofs.Marks.{once_below}
use Rattle.dj_resolution.proofs.methods.method_chains.Goals as goal

pub of-requires-clause-rows : goal.of-requires-clause-rows
of-requires-clause-rows c =
    rows_inside c.args.table.now (once_above c.args.table.now) (lists_of c.args.above.now) (record { count = c.requires.above.count; each = c.requires.above.each }) (λ k lt. once_below c.args.table.now k)

pub returns : goal.returns
returns c = lists_ok c.of.result c.args.table.now (row_at (lists_of c.args.above.now)) (once_above c.args.table.now) c.requires.above.each c.of.ensures
