use Rattle.std.proofs.Common.{◌≡◌, map, take}
use Rattle.std.specs.List.{flat_map}
use Rattle.dj_asm_source.specs.LineViews.{line_view}
use Rattle.dj_asm_pool.specs.Pooling.{found_index}
use Rattle.dj_asm.specs.Filing.{constant_bodies}
use Rattle.dj_asm.proofs.bodies.constants_of.Given as goal

abbrev pub invariant-loop-line : goal.invariant-loop-line
invariant-loop-line l = l.bodies.items ≡ flat_map (constant_bodies (found_index l.pool)) (map line_view (take l.line-index l.lines))
