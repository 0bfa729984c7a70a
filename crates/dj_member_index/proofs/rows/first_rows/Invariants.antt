use Rattle.dj_member_index.proofs.FirstLaws.{AreFirstOf}
use Rattle.dj_member_index.proofs.rows.first_rows.Given as goal

-- those of the rows so far
abbrev pub invariant-loop-at : goal.invariant-loop-at
invariant-loop-at l = AreFirstOf l.rows l.at l.firsts.items
