use Rattle.dj_member_index.specs.Calls.{tests}
use Rattle.dj_member_index.proofs.CallLaws.{AreSoFar}
use Rattle.dj_member_index.proofs.calls.takable.Given as goal

-- those of the rows so far
abbrev pub invariant-loop-row : goal.invariant-loop-row
invariant-loop-row l = AreSoFar l.table (tests l.private_too) l.rows l.row-index l.taken.items
