use Rattle.dj_member_index.proofs.SpanLaws.{AreMarksOf}
use Rattle.dj_member_index.proofs.marks.marks_of.Given as goal

-- those of the rows so far
abbrev pub invariant-loop-row : goal.invariant-loop-row
invariant-loop-row l = AreMarksOf l.spans l.rows l.row-index l.marks.items
