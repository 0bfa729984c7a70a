use Rattle.dj_member_index.proofs.CallLaws.{AreFirstsOf}
use Rattle.dj_member_index.proofs.calls.firsts_of.Given as goal

-- those of the rows so far
abbrev pub invariant-loop-row : goal.invariant-loop-row
invariant-loop-row l = AreFirstsOf l.rows l.places l.row-index l.firsts.items
