use Rattle.std.proofs.Common.{take}
use Rattle.dj_shape_rule.specs.Passing.{IsFirstUnhandled}
use Rattle.dj_shape_rule.proofs.pass.first_unhandled.Given as goal

abbrev pub invariant-loop-row : goal.invariant-loop-row
invariant-loop-row l = IsFirstUnhandled l.frames (take l.row-index l.rows) l.least
