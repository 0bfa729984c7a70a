use Rattle.std.proofs.Common.{◌≡◌, ◌*◌, length, ltb, take}
use Rattle.dj_resolution.specs.Marked.{AddsMarks}
use Rattle.dj_resolution.specs.Ranked.{rank_in}
use Rattle.dj_resolution.proofs.declarers.mark_ranks.Given as goal

-- those of the first rows
abbrev pub invariant-loop-row : goal.invariant-loop-row
invariant-loop-row l = (length l.marks ≡ length l.fn.marks)
    × AddsMarks (λ row. ltb (rank_in l.ranks row.class) (length l.fn.marks * 64)) (λ row. rank_in l.ranks row.class) (take l.row-index l.rows) l.fn.marks l.marks
