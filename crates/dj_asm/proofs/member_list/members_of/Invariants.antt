use Rattle.std.proofs.Common.{◌≡◌, ◌++◌, map, drop}
use Rattle.dj_asm_source.specs.LineViews.{line_view}
use Rattle.dj_asm_pool.specs.Pooling.{found_index}
use Rattle.dj_asm.specs.Filing.{members_in}
use Rattle.dj_asm.proofs.member_list.members_of.Given as goal

abbrev pub invariant-loop-line : goal.invariant-loop-line
invariant-loop-line l =
    l.members ++ members_in (found_index l.pool) l.attribute l.rest (map line_view (drop l.line-index l.lines))
    ≡ members_in (found_index l.pool) l.attribute l.bodies (map line_view l.lines)
