use Rattle.std.proofs.Common.{◌≡◌, map, take}
use Rattle.dj_shape_rule.specs.Handlers.{range_of}
use Rattle.dj_shape_rule.proofs.handlers.ranges_of.Given as goal

-- the ranges so far
abbrev pub invariant-loop-row : goal.invariant-loop-row
invariant-loop-row l = l.ranges.items ≡ map (range_of l.frames) (take l.row-index l.rows)
