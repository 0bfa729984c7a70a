use Rattle.std.proofs.Common.{◌≡◌, length, take, true}
use Rattle.dj_resolution.specs.Marked.{AddsMarks}
use Rattle.dj_resolution.proofs.declarers.mark_all.Given as goal

-- those of the first rows
abbrev pub invariant-loop-row : goal.invariant-loop-row
invariant-loop-row l = (length l.marks ≡ length l.fn.marks) × AddsMarks (λ row. true) (λ row. row.class) (take l.row-index l.rows) l.fn.marks l.marks
