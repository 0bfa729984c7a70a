use Rattle.dj_declarations.proofs.CountLaws.{IsCounted}
use Rattle.dj_declarations.proofs.members.instance_counts_of.Given as goal

-- the rows so far
abbrev pub invariant-loop-row : goal.invariant-loop-row
invariant-loop-row l = IsCounted l.rows l.row-index l.counts.items l.count
