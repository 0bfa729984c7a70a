use Rattle.std.proofs.Common.{take, map}
use Rattle.std.specs.List.{enumerate_from}
use Rattle.dj_asm_source.specs.LineViews.{line_view}
use Rattle.dj_asm_pool.specs.trusted.Needs.{needs}
use Rattle.dj_asm_pool.specs.Walking.{kind_entries, Walks}
use Rattle.dj_asm_pool.proofs.walk.walk_kind.Given as goal

-- the lines so far are walked
abbrev pub invariant-loop-index : goal.invariant-loop-index
invariant-loop-index l = Walks l.initial.pool l.fn.lacking (needs (kind_entries l.kind) (enumerate_from l.before (map line_view (take l.index l.lines)))) l.pool l.first
