use Rattle.std.proofs.Common.{◌≡◌, length, take}
use Rattle.dj_resolution.specs.Marked.{AddsMarks, is_plain_at}
use Rattle.dj_resolution.proofs.declarers.mark_plain.Given as goal

-- those of the first rows
abbrev pub invariant-loop-row : goal.invariant-loop-row
invariant-loop-row l =
    (length l.marks ≡ length l.fn.marks) × AddsMarks (λ row. is_plain_at l.directory.program row.class row.place) (λ row. row.class) (take l.row-index l.rows) l.fn.marks l.marks
