use Rattle.dj_resolution.specs.Numbers.{lists_of}
use Rattle.dj_resolution.specs.Ranked.{AreRanked}
use Rattle.dj_resolution.proofs.ranked.rows_of.Given as goal

-- those so far
abbrev pub invariant-loop-rank : goal.invariant-loop-rank
invariant-loop-rank l = AreRanked l.table l.order l.ranks (lists_of l.rows.items) l.rank
